-- Worked examples: what the definitions of numbering say of small boards, one module a subject.
pub mod Boards
pub mod Answers
pub mod Walks
pub mod Numbers
pub mod Rooms
pub mod Accesses
pub mod Spares
