mod CommandWords
mod CommandLines
mod FurtherLines
mod Also
mod ModelLines
