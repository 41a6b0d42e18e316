-- What the commands that the code hands out stand for.
use Rattle.std.specs.Prelude.{true, false}
use Rattle.meaning.specs.Value.{Value, none, boolean, integer, float, string}
use Rattle.reader.specs.declared.command.BaseCommand.{BaseCommand}
use Rattle.reader.specs.declared.command.BaseCommand.TheVariants as base
use Rattle.reader.specs.declared.command.ExprCommand.{ExprCommand}
use Rattle.reader.specs.declared.command.ExprCommand.TheVariants as expr
use Rattle.reader.specs.declared.command.StmtCommand.{StmtCommand}
use Rattle.reader.specs.declared.command.StmtCommand.TheVariants as stmt
use Rattle.reader.specs.declared.command.ScopeCommand.{ScopeCommand}
use Rattle.reader.specs.declared.command.ScopeCommand.TheVariants as scope
use Rattle.reader.specs.declared.literal.PlainValue.{PlainValue}
use Rattle.reader.specs.declared.literal.PlainValue.TheVariants as plain
use Rattle.reader.specs.Fields.{members_of, text_of}
use Rattle.reader.specs.Heads.{BaseHead, VariableHead, LiteralHead, ListHead, EmptyMapHead, MapHead, ParenHead, CallHead, ExprHead, BaseOf, FilterHead}
use Rattle.reader.specs.Heads.{StmtHead, RawHead, InlineHead, IncludeHead, IncludeWithHead, IfHead, IfElseHead, ForItemHead, ForPairHead, WithHead, ScopeHead, StmtOf, EndHead}

abbrev pub base_of : BaseCommand → BaseHead
base_of (base.Variable ms) = VariableHead (members_of ms)
base_of (base.Literal s) = LiteralHead s
base_of (base.List s n) = ListHead s n
base_of (base.EmptyMap s) = EmptyMapHead s
base_of (base.Map s k n) = MapHead s (text_of k) n
base_of (base.Paren s) = ParenHead s
base_of (base.Call name whole n) = CallHead name whole n

abbrev pub expr_of : ExprCommand → ExprHead
expr_of (expr.Base b) = BaseOf (base_of b)
expr_of (expr.Filter name whole n) = FilterHead name whole n

abbrev pub stmt_of : StmtCommand → StmtHead
stmt_of (stmt.Raw s) = RawHead s
stmt_of stmt.Inline = InlineHead
stmt_of (stmt.Include name) = IncludeHead (text_of name)
stmt_of (stmt.IncludeWith name) = IncludeWithHead (text_of name)
stmt_of (stmt.If negated) = IfHead negated
stmt_of (stmt.IfElse negated) = IfElseHead negated
stmt_of (stmt.ForItem s) = ForItemHead s
stmt_of (stmt.ForPair k v both) = ForPairHead k v both
stmt_of (stmt.With s) = WithHead s

abbrev pub scope_of : ScopeCommand → ScopeHead
scope_of (scope.Stmt s) = StmtOf (stmt_of s)
scope_of scope.End = EndHead

abbrev pub plain_of : PlainValue → Value
plain_of plain.Nothing = none
plain_of plain.False = boolean false
plain_of plain.True = boolean true
plain_of (plain.Integer n) = integer n
plain_of (plain.Float bits) = float bits
plain_of (plain.String b) = string b.now
