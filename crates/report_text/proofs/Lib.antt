mod HexText
mod NumberedText
mod TunnelText
mod StoreText
