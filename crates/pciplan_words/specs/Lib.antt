pub mod Forms
pub mod Arguments
pub mod CommandWords
pub mod FurtherWords
