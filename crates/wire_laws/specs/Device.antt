-- What the fields of a text add up to.
use Rattle.std.specs.Prelude.{ℕ, ◌+◌}
use Rattle.texts.specs.declared.text.Text.{Text}

abbrev pub text_size : Text → ℕ
text_size t = 4 + t.units.size
