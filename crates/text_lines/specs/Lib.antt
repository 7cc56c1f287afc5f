-- Texts as bytes: lines, fields, and bytes written at a place (requests 3 and 13).
pub mod Lines
pub mod Pieces
