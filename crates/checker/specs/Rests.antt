-- What follows a head: its nesting is tested, then its children are passed over.
use Rattle.std.specs.Prelude.{ℕ, Bool, List, []}
use Rattle.meaning.specs.Tree.{Expr, BaseExpr, Pairs, Scope}
use Rattle.packing.specs.Reader.{Reader, ensure}
use Rattle.meaning.specs.Step.{return, ◌>>=◌, ◌>>◌}
use Rattle.meaning.specs.declared.fault.Cause.TheVariants.{TooDeep}
use Rattle.packing.specs.Unpacking.{literal_value, args, pairs, whole_expr}
use Rattle.reader.specs.Fields.{ended}
use Rattle.reader.specs.Heads.{BaseHead, VariableHead, LiteralHead, ListHead, EmptyMapHead, MapHead, ParenHead, CallHead, ExprHead, BaseOf, FilterHead}
use Rattle.reader.specs.Heads.{StmtHead, RawHead, InlineHead, IncludeHead, IncludeWithHead, IfHead, IfElseHead, ForItemHead, ForPairHead, WithHead}

abbrev pub passing : {A : Type 0} → Reader A → Reader (Unit {0})
passing m s = ended (m s)

-- an expression, and the statements of a block
abbrev pub then_block : List ℕ → Reader Scope → Reader Scope
then_block source block = whole_expr source >>= λ e. block

module _ (source : List ℕ) (at : ℕ) (room : Bool) where
  -- a map from the first pair's value on
  abbrev pub from_first : Reader BaseExpr → ℕ → Reader Pairs
  from_first base n = base >>= λ b. pairs source at room base n []

  -- `expr` and `base` read one level down
  module _ (expr : Reader Expr) (base : Reader BaseExpr) where
    abbrev pub base_rest : BaseHead → Reader (Unit {0})
    base_rest (VariableHead ms) = return tt
    base_rest (LiteralHead s) = passing literal_value
    base_rest (ListHead s n) = passing (args base n)
    base_rest (EmptyMapHead s) = return tt
    base_rest (MapHead s k n) = passing (from_first base n)
    base_rest (ParenHead s) = passing expr
    base_rest (CallHead name whole n) = passing (args base n)

    abbrev pub expr_rest : ExprHead → Reader (Unit {0})
    expr_rest (BaseOf b) = base_rest b
    expr_rest (FilterHead name whole n) = passing (expr >>= λ e. args base n)

  abbrev pub with_room : Reader (Unit {0}) → Reader (Unit {0})
  with_room rest = ensure room TooDeep at >> rest

  -- `block` reads the statements of a block
  module _ (block : Reader Scope) where
    abbrev pub nested : Reader (Unit {0})
    nested = with_room (passing (then_block source block))

    abbrev pub branches : Reader (Unit {0})
    branches = with_room (passing (whole_expr source >>= λ e. block >>= λ c. block))

    abbrev pub stmt_rest : StmtHead → Reader (Unit {0})
    stmt_rest (RawHead s) = return tt
    stmt_rest InlineHead = passing (whole_expr source)
    stmt_rest (IncludeHead name) = return tt
    stmt_rest (IncludeWithHead name) = passing (whole_expr source)
    stmt_rest (IfHead negated) = nested
    stmt_rest (IfElseHead negated) = branches
    stmt_rest (ForItemHead s) = nested
    stmt_rest (ForPairHead k v both) = nested
    stmt_rest (WithHead s) = nested
