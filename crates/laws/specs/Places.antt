-- Places at which parts of templates are read.
use Rattle.std.specs.Prelude.{◌≡◌, ℕ, zero, suc, List, ◌∷◌}
use Rattle.meaning.specs.Or.{Or}
use Rattle.meaning.specs.Value.{Value, Text}
use Rattle.meaning.specs.Tree.{Expr, Stmt, Scope}
use Rattle.meaning.specs.Fault.{Fault, fault}
use Rattle.meaning.specs.declared.fault.Cause.TheVariants.{TooManyOpen}
use Rattle.meaning.specs.Charge.{Charge}
use Rattle.meaning.specs.Hosts.{Callable}
use Rattle.meaning.specs.Scopes.{Visible}
use Rattle.meaning.specs.Reading.{Reading, ending, Template, Templates, Setting}
use Rattle.meaning.specs.Expressions.{read_expr}
use Rattle.meaning.specs.Statements.{Included, read_stmt, read_scope, read_template}

-- what matters for the reading of a part of a template
pub record Place : Type 0 where
  pub setting : Setting
  -- how many templates may be opened within one another from here
  pub more : ℕ
  -- the template that the part stands in
  pub name : Text
  pub source : List ℕ
  -- what is visible, innermost first
  pub visible : List Visible
  -- how much of the store is in use
  pub used : Charge

-- how templates are read that are opened where so many may be
abbrev pub opening : Setting → (more : ℕ) → Included
opening setting zero = λ name template visible used. ending (fault TooManyOpen 0)
opening setting (suc more) = read_template setting more

abbrev pub evaluates : Place → Expr → Or Fault (Value × Charge)
evaluates at e = read_expr at.setting at.source at.visible e at.used

abbrev pub reads_one : Place → Stmt → Reading
reads_one at stmt = read_stmt at.setting at.name at.source (opening at.setting at.more) stmt at.visible at.used

abbrev pub reads : Place → Scope → Reading
reads at scope = read_scope at.setting at.name at.source (opening at.setting at.more) scope at.visible at.used

-- the place where this is visible too, innermost
abbrev pub seeing : Place → Visible → Place
seeing at layer = record at { visible = layer ∷ at.visible }

-- the place where so much is in use
abbrev pub holding : Place → Charge → Place
holding at held = record at { used = held }

-- the place where other things are visible
abbrev pub where_visible : Place → List Visible → Place
where_visible at visible = record at { visible = visible }

-- the place at the start of a template that is included there
abbrev pub inside : Place → (more : ℕ) → (name : Text) → Template → Place
inside at more name template = record at { more = more; name = name; source = template.source }

-- the place at which a template begins
abbrev pub start_of : Setting → (more : ℕ) → (name : Text) → Template → List Visible → (used : Charge) → Place
start_of setting more name template visible used =
    record { setting = setting; more = more; name = name; source = template.source; visible = visible; used = used }

-- a template is read from there
abbrev pub TemplatesAreRead : Type 0
TemplatesAreRead =
    (setting : Setting) (more : ℕ) (name : Text) (template : Template) (visible : List Visible) (used : Charge) →
    read_template setting more name template visible used ≡ reads (start_of setting more name template visible used) template.tree

-- the place where so much is supplied, and so much of it is in use
abbrev pub with_room : Place → (supply used : Charge) → Place
with_room at supply used = record at { setting = record (at.setting) { supply = supply }; used = used }

-- the place from which so many templates may be opened within one another
abbrev pub with_more : Place → ℕ → Place
with_more at more = record at { more = more }

-- the place where other templates are held
abbrev pub with_templates : Place → Templates → Place
with_templates at templates = record at { setting = record (at.setting) { templates = templates } }

-- the place where names stand for other functions and formatters
abbrev pub with_callables : Place → (Text → Callable) → Place
with_callables at callables =
    record at {
      setting = record (at.setting) { hosts = record { callables = callables; default_formatter = at.setting.hosts.default_formatter } };
    }

-- the place in a template of another name, with the same source
abbrev pub called : Place → (name : Text) → Place
called at name = record at { name = name }
