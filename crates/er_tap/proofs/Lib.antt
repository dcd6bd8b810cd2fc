mod KeptLines
mod PlainLines
mod TapLines
mod Values
