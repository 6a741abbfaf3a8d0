mod RootWords
mod Invocations
mod AlsoTasks
mod SettlingWords
mod AlsoTexts
