-- Request 13: an index as a text. Carrying has the definitions, which a reader must believe; Back what is proved of a
-- text that is read.
pub mod Carrying
pub mod Back
