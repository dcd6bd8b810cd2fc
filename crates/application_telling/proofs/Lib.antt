mod Appending
mod Modelled
