mod Index
mod Order
