mod MemoryFiles
mod ScriptWalks
mod KeptLists
mod Comings
mod Giving
mod Reading
mod ToldLines
mod ToldCalls
