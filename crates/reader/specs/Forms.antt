-- The kinds of commands: what a command's head says, how it is read, and which spans it has.
use Rattle.std.specs.Prelude.{ℕ, List}
use Rattle.meaning.specs.declared.tree.Span.{Span}
use Rattle.packing.specs.Reader.{Reader}
use Rattle.reader.specs.Heads.{BaseHead, base_head, base_spans, ExprHead, expr_head, expr_spans, ScopeHead, scope_head, scope_spans}

pub record Form : Type 1 where
  pub Head : Type 0
  pub reads : ℕ → Reader Head
  pub spans : Head → List Span

abbrev pub base_form : Form
base_form = record { Head = BaseHead; reads = base_head; spans = base_spans }

abbrev pub expr_form : Form
expr_form = record { Head = ExprHead; reads = expr_head; spans = expr_spans }

abbrev pub scope_form : Form
scope_form = record { Head = ScopeHead; reads = scope_head; spans = scope_spans }
