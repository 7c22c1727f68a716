-- The canonical text of a saved world.
pub mod Canonical
-- The next number in the lists of a tree.
pub mod Nexts
-- Properties that the types of a world keep.
pub mod Held
-- The text of a world.
pub mod Texts
