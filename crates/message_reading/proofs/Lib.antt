mod Tunnels
mod Few
