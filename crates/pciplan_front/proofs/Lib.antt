mod FirstWords
mod DomainReplies
mod HerePieces
mod HereWords
mod JsonReplies
mod Opened
mod PictureReplies
mod Texts
pub mod Explained
