mod Gathering
mod Placing
mod Joining
