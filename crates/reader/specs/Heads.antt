-- The heads of commands: what stands before the first child. A head is read (malformed), then its spans are
-- tested (misplaced), then its nesting (too deep); only then its children are read.
use Rattle.std.specs.Prelude.{ℕ, zero, suc, Bool, List, [], ◌∷◌, nat_le}
use Rattle.meaning.specs.declared.tree.Span.{Span}
use Rattle.meaning.specs.Tree.{String}
use Rattle.meaning.specs.declared.tree.Member.{Member}
use Rattle.packing.specs.Reader.{Reader, ensure, byte, flag, command}
use Rattle.meaning.specs.Step.{return, ◌>>=◌, ◌>>◌}
use Rattle.meaning.specs.declared.fault.Cause.TheVariants.{Malformed}
use Rattle.packing.specs.Unpacking.{span, string_of, member_spans}
use Rattle.packing.specs.Commands.{BaseByte, variable_byte, literal_byte, list_of_byte, map_of_byte, paren_byte, call_byte, base_code, base_bytes}
use Rattle.packing.specs.Commands.{ExprByte, of_base, filter_byte, expr_code, expr_bytes, StmtByte, raw_byte, inline_byte, include_byte, include_with_byte, if_byte, if_else_byte, for_item_byte, for_pair_byte, with_byte, ScopeByte, stmt, end_byte, scope_code, scope_bytes}
use Rattle.reader.specs.Fields.{variable_members}

-- ── Expressions ─────────────────────────────────────────────────────────────────────────────

pub data BaseHead : Type 0 where
  VariableHead : List Member → BaseHead
  LiteralHead : Span → BaseHead
  ListHead : Span → ℕ → BaseHead
  EmptyMapHead : Span → BaseHead
  -- the first pair's key, and how many pairs there are after that pair
  MapHead : Span → String → ℕ → BaseHead
  ParenHead : Span → BaseHead
  CallHead : Span → Span → ℕ → BaseHead

pub data ExprHead : Type 0 where
  BaseOf : BaseHead → ExprHead
  FilterHead : Span → Span → ℕ → ExprHead

abbrev pub map_head : ℕ → Span → ℕ → Reader BaseHead
map_head at s zero = return (EmptyMapHead s)
map_head at s (suc n) = do
  k ← string_of at
  return (MapHead s k n)

unfoldable pub map_fields : ℕ → Reader BaseHead
map_fields at = do
  s ← span at
  n ← byte at
  map_head at s n

-- name, whole and count of a call or filter
pub record Callee : Type 0 where
  pub name : Span
  pub whole : Span
  pub count : ℕ

unfoldable pub callee : ℕ → ℕ → Reader Callee
callee most at = do
  name ← span at
  whole ← span at
  n ← byte at
  ensure (nat_le n most) Malformed at
  return (record { name = name; whole = whole; count = n })

unfoldable pub base_fields : ℕ → BaseByte → Reader BaseHead
base_fields at variable_byte = do
  ms ← variable_members at
  return (VariableHead ms)
base_fields at literal_byte = do
  s ← span at
  return (LiteralHead s)
base_fields at list_of_byte = do
  s ← span at
  n ← byte at
  return (ListHead s n)
base_fields at map_of_byte = map_fields at
base_fields at paren_byte = do
  s ← span at
  return (ParenHead s)
base_fields at call_byte = do
  c ← callee 8 at
  return (CallHead c.name c.whole c.count)

unfoldable pub expr_fields : ℕ → ExprByte → Reader ExprHead
expr_fields at (of_base k) = do
  b ← base_fields at k
  return (BaseOf b)
expr_fields at filter_byte = do
  c ← callee 7 at
  return (FilterHead c.name c.whole c.count)

unfoldable pub base_head : ℕ → Reader BaseHead
base_head at = command base_code base_bytes at >>= base_fields at

unfoldable pub expr_head : ℕ → Reader ExprHead
expr_head at = command expr_code expr_bytes at >>= expr_fields at

-- the spans that a head has to have placed well
abbrev pub base_spans : BaseHead → List Span
base_spans (VariableHead ms) = member_spans ms
base_spans (LiteralHead s) = s ∷ []
base_spans (ListHead s n) = s ∷ []
base_spans (EmptyMapHead s) = s ∷ []
base_spans (MapHead s k n) = k.span ∷ s ∷ []
base_spans (ParenHead s) = s ∷ []
base_spans (CallHead name whole n) = name ∷ whole ∷ []

abbrev pub expr_spans : ExprHead → List Span
expr_spans (BaseOf b) = base_spans b
expr_spans (FilterHead name whole n) = name ∷ whole ∷ []

-- ── Statements ──────────────────────────────────────────────────────────────────────────────

pub data StmtHead : Type 0 where
  RawHead : Span → StmtHead
  InlineHead : StmtHead
  IncludeHead : String → StmtHead
  IncludeWithHead : String → StmtHead
  IfHead : Bool → StmtHead
  IfElseHead : Bool → StmtHead
  ForItemHead : Span → StmtHead
  -- key, value, both
  ForPairHead : Span → Span → Span → StmtHead
  WithHead : Span → StmtHead

pub data ScopeHead : Type 0 where
  StmtOf : StmtHead → ScopeHead
  EndHead : ScopeHead

unfoldable pub stmt_fields : ℕ → StmtByte → Reader StmtHead
stmt_fields at raw_byte = do
  s ← span at
  return (RawHead s)
stmt_fields at inline_byte = return InlineHead
stmt_fields at include_byte = do
  name ← string_of at
  return (IncludeHead name)
stmt_fields at include_with_byte = do
  name ← string_of at
  return (IncludeWithHead name)
stmt_fields at if_byte = do
  negated ← flag at
  return (IfHead negated)
stmt_fields at if_else_byte = do
  negated ← flag at
  return (IfElseHead negated)
stmt_fields at for_item_byte = do
  s ← span at
  return (ForItemHead s)
stmt_fields at for_pair_byte = do
  k ← span at
  v ← span at
  both ← span at
  return (ForPairHead k v both)
stmt_fields at with_byte = do
  s ← span at
  return (WithHead s)

unfoldable pub scope_fields : ℕ → ScopeByte → Reader ScopeHead
scope_fields at (stmt k) = do
  s ← stmt_fields at k
  return (StmtOf s)
scope_fields at end_byte = return EndHead

unfoldable pub scope_head : ℕ → Reader ScopeHead
scope_head at = command scope_code scope_bytes at >>= scope_fields at

abbrev pub stmt_spans : StmtHead → List Span
stmt_spans (RawHead s) = s ∷ []
stmt_spans InlineHead = []
stmt_spans (IncludeHead name) = name.span ∷ []
stmt_spans (IncludeWithHead name) = name.span ∷ []
stmt_spans (IfHead negated) = []
stmt_spans (IfElseHead negated) = []
stmt_spans (ForItemHead s) = s ∷ []
stmt_spans (ForPairHead k v both) = k ∷ v ∷ both ∷ []
stmt_spans (WithHead s) = s ∷ []

abbrev pub scope_spans : ScopeHead → List Span
scope_spans (StmtOf s) = stmt_spans s
scope_spans EndHead = []
