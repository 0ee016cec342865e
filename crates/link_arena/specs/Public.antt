-- The words of this crate's public contracts.
pub use Rattle.link_arena.specs.Lists.{Lists, EachOnce, list_at, is_linked, pushed, unlinked, next_of}
