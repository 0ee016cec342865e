-- The words that speak of the text of what is stored.
pub use Rattle.store_show.specs.Texts.{note_text, show_text}
