-- What stands after a command's byte.
use Rattle.std.specs.Prelude.{ℕ, List, [], ◌∷◌}
use Rattle.packing.specs.Reader.{Reader, coded, expect, command}
use Rattle.meaning.specs.Step.{◌>>=◌}
use Rattle.packing.specs.Commands.{plain_code, plain_bytes, base_code, base_bytes, stmt_code, StmtByte, raw_byte, inline_byte, include_byte, include_with_byte, if_byte, if_else_byte, for_item_byte, for_pair_byte, with_byte}
use Rattle.packing.specs.Unpacking.{plain_value}
use Rattle.meaning.specs.Value.{Value}
use Rattle.meaning.specs.declared.tree.Span.{Span}
use Rattle.reader.specs.Heads.{BaseHead, StmtHead, base_fields, stmt_fields, Callee}

unfoldable pub base_after : ℕ → ℕ → Reader BaseHead
base_after b at = expect at (coded base_code base_bytes b) >>= base_fields at

abbrev pub stmt_bytes : List StmtByte
stmt_bytes = raw_byte ∷ inline_byte ∷ include_byte ∷ include_with_byte ∷ if_byte ∷ if_else_byte ∷ for_item_byte ∷ for_pair_byte ∷ with_byte ∷ []

unfoldable pub stmt_after : ℕ → ℕ → Reader StmtHead
stmt_after b at = expect at (coded stmt_code stmt_bytes b) >>= stmt_fields at

unfoldable pub plain_after : ℕ → ℕ → Reader Value
plain_after b at = expect at (coded plain_code plain_bytes b) >>= plain_value at

-- a literal's value, as a command of its own
unfoldable pub plain_head : ℕ → Reader Value
plain_head at = command plain_code plain_bytes at >>= plain_value at

abbrev pub callee_of : Span × Span × ℕ → Callee
callee_of c = record { name = c.0; whole = c.1; count = c.2 }
