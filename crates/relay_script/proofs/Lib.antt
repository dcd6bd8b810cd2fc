mod KeptLines
mod ScriptLines
