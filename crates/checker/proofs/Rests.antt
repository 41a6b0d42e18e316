-- That a command is its head and then the rest: reading it is reading the one and passing over the other.
use Rattle.std.proofs.Common.{◌<◌, arith, ◌≡◌, ℕ, zero, suc, ◌-◌, Bool, true, false, leb, List, [], ◌∷◌, length, drop, Result, Some, None, Option, sym, refl, ap, ◌∙◌, length-drop}
use Rattle.meaning.specs.declared.tree.Span.{Span}
use Rattle.meaning.specs.Tree.{String, Expr, BaseExpr, Base, Literal, ListOf, MapOf, Paren, Call, Filter, pair, arg}
use Rattle.meaning.specs.Tree.{members}
use Rattle.packing.specs.Limits.{inside}
use Rattle.packing.specs.Reader.{Outcome, read, refused, Reader, ensure, byte, command}
use Rattle.meaning.specs.Step.{return, continue, ◌>>=◌, ◌>>◌}
use Rattle.meaning.specs.declared.fault.Cause.{Cause}
use Rattle.meaning.specs.Or.{gives, fails}
use Rattle.meaning.specs.declared.fault.Cause.TheVariants.{Malformed, Misplaced, TooDeep}
use Rattle.packing.specs.Unpacking.{nothing_below, expr_within, base_within, placed, span, string_of, variable, literal_value, args, pairs, base_of, expr_of, a_base, an_expr}
use Rattle.packing.specs.Commands.{BaseByte, variable_byte, literal_byte, list_of_byte, map_of_byte, paren_byte, call_byte, ExprByte, of_base, filter_byte, base_code, base_bytes, expr_code, expr_bytes}
use Rattle.reader.specs.declared.literal.PlainValue.{PlainValue}
use Rattle.reader.specs.Fields.{Takes, ended, variable_members}
use Rattle.reader.specs.Heads.{BaseHead, VariableHead, LiteralHead, ListHead, EmptyMapHead, MapHead, ParenHead, CallHead, ExprHead, BaseOf, FilterHead, base_fields, map_fields, map_head, Callee, callee, base_spans, expr_spans, base_head, expr_head, expr_fields}
use Rattle.checker.specs.Rests.{base_rest, expr_rest}
use Rattle.std.specs.Prelude.{IsErrAnd}
use Rattle.std.proofs.lemmas.Result.{err_from_is_err_and}
use Rattle.reader.specs.declared.refusal.Refusal.{Refusal}
use Rattle.reader.specs.Meanings.{plain_of}
use Rattle.reader.specs.AfterByte.{plain_head}
use Rattle.reader.specs.Refusals.{cause_of, offset_of}
use Rattle.reader.specs.Verdicts.{well_placed, reached}
use Rattle.reader.proofs.Members.{ended_made, ended_read, ended_refused}

-- ONE AFTER ANOTHER

pub step : {A B : Type 0} (o : Outcome A) (f : A → Reader B) (g : A → Reader (Unit {0})) → ((a : A) (s : List ℕ) → ended (f a s) ≡ g a s) → ended (continue o f) ≡ continue o g
step (gives (a, s)) f g same = same a s
step (fails (cause, left)) f g same = refl

-- the same, where the first part belongs to a head
pub nest : {A B H : Type 0} (o : Outcome A) (f : A → Reader B) (head : A → Reader H) (rest : H → Reader (Unit {0})) → ((a : A) (s : List ℕ) → ended (f a s) ≡ continue (head a s) rest) → ended (continue o f) ≡ continue (continue o head) rest
nest (gives (a, s)) f head rest same = same a s
nest (fails (cause, left)) f head rest same = refl

pub regroup : {A B C : Type 0} (o : Outcome A) (f : A → Reader B) (g : B → Reader C) → continue (continue o f) g ≡ continue o (λ a s. continue (f a s) g)
regroup (gives (a, s)) f g = refl
regroup (fails (cause, left)) f g = refl

-- EXPRESSIONS

module _ (source : List ℕ) (at : ℕ) (room : Bool) (expr : Reader Expr) (base : Reader BaseExpr) where
  -- spans, nesting, children
  abbrev guard : {H : Type 0} → (H → List Span) → (H → Reader (Unit {0})) → H → Reader (Unit {0})
  guard spans rest h = placed source (spans h) at >> (ensure room TooDeep at >> rest h)

  guarded : {B H : Type 0} (spans : H → List Span) (rest : H → Reader (Unit {0})) (h : H) (m : Reader B) (u : List ℕ) → ((s : List ℕ) → ended (m s) ≡ rest h s) → ended ((placed source (spans h) at >> (ensure room TooDeep at >> m)) u) ≡ guard spans rest h u
  guarded spans rest h m u same =
      step (placed source (spans h) at u) _ _ (λ _ s. step (ensure room TooDeep at s) _ _ (λ _ s₁. same s₁))

  abbrev base_guard : BaseHead → Reader (Unit {0})
  base_guard = guard base_spans (base_rest source at room expr base)

  map_splits : (s : Span) (n : ℕ) (u : List ℕ) → ended (pairs source at room base n (s ∷ []) u) ≡ continue (map_head at s n u) base_guard
  unfolding pairs
  map_splits s zero u = guarded base_spans (base_rest source at room expr base) (EmptyMapHead s) (return _) u (λ t. refl)
  map_splits s (suc n) u =
      nest (string_of at u) _ _ base_guard (λ k t.
      guarded base_spans (base_rest source at room expr base) (MapHead s k n) _ t (λ t₁.
      step (base t₁) _ _ (λ b t₂. ended_made (pairs source at room base n [] t₂) (pair k b))
      ∙ sym (step (base t₁) _ _ (λ b t₂. refl))))

  callee_splits : {B H : Type 0} (most : ℕ) (head : Callee → H) (spans : H → List Span) (rest : H → Reader (Unit {0})) (m : Span → Span → ℕ → Reader B) (s : List ℕ) → ((name whole : Span) (n : ℕ) (t : List ℕ) → ended (m name whole n t) ≡ rest (head (record { name = name; whole = whole; count = n })) t) → ended ((span at >>= λ name. span at >>= λ whole. byte at >>= λ n. ensure (leb n most) Malformed at >> (placed source (spans (head (record { name = name; whole = whole; count = n }))) at >> (ensure room TooDeep at >> m name whole n))) s) ≡ continue ((callee most at >>= λ c. return (head c)) s) (guard spans rest)
  unfolding callee
  callee_splits most head spans rest m s same =
      nest (span at s) _ _ (λ c. guard spans rest (head c)) (λ name t.
      nest (span at t) _ _ (λ c. guard spans rest (head c)) (λ whole t₁.
      nest (byte at t₁) _ _ (λ c. guard spans rest (head c)) (λ n t₂.
      nest (ensure (leb n most) Malformed at t₂) _ (λ _. return (record { name = name; whole = whole; count = n })) (λ c. guard spans rest (head c)) (λ _ t₃.
      guarded spans rest (head (record { name = name; whole = whole; count = n })) (m name whole n) t₃ (same name whole n)))))
      ∙ sym (regroup (callee most at s) (λ c. return (head c)) (guard spans rest))

  pub base_splits : (k : BaseByte) (s : List ℕ) → ended (base_of source at room expr base k s) ≡ continue (base_fields at k s) base_guard
  unfolding base_of base_fields variable_members map_fields callee
  base_splits variable_byte s =
      nest (variable at s) _ (λ v. return (VariableHead (members v))) base_guard (λ v t.
      guarded base_spans (base_rest source at room expr base) (VariableHead (members v)) _ t (λ t₁. refl))
      ∙ sym (ap (λ (o : Outcome BaseHead). continue o base_guard) (regroup (variable at s) (λ v. return (members v)) (λ ms. return (VariableHead ms))))
  base_splits literal_byte s =
      nest (span at s) _ _ base_guard (λ p t.
      guarded base_spans (base_rest source at room expr base) (LiteralHead p) _ t (λ t₁. ended_made (literal_value t₁) (Literal p)))
  base_splits list_of_byte s =
      nest (span at s) _ _ base_guard (λ p t.
      nest (byte at t) _ _ base_guard (λ n t₁.
      guarded base_spans (base_rest source at room expr base) (ListHead p n) _ t₁ (λ t₂. ended_made (args base n t₂) (ListOf p))))
  base_splits map_of_byte s =
      nest (span at s) _ _ base_guard (λ p t.
      nest (byte at t) _ _ base_guard (λ n t₁. ended_made (pairs source at room base n (p ∷ []) t₁) (MapOf p) ∙ map_splits p n t₁))
  base_splits paren_byte s =
      nest (span at s) _ _ base_guard (λ p t.
      guarded base_spans (base_rest source at room expr base) (ParenHead p) _ t (λ t₁. ended_made (expr t₁) (Paren p)))
  base_splits call_byte s =
      callee_splits 8 (λ c. CallHead c.name c.whole c.count) base_spans (base_rest source at room expr base) _ s
      (λ name whole n t. ended_made (args base n t) (Call name whole))

  abbrev expr_guard : ExprHead → Reader (Unit {0})
  expr_guard = guard expr_spans (expr_rest source at room expr base)

  pub expr_splits : (k : ExprByte) (s : List ℕ) → ended (expr_of source at room expr base k s) ≡ continue (expr_fields at k s) expr_guard
  unfolding expr_of expr_fields
  expr_splits (of_base k) s =
      ended_made (base_of source at room expr base k s) Base
      ∙ base_splits k s
      ∙ sym (regroup (base_fields at k s) (λ b. return (BaseOf b)) expr_guard)
  expr_splits filter_byte s =
      callee_splits 7 (λ c. FilterHead c.name c.whole c.count) expr_spans (expr_rest source at room expr base) _ s
      (λ name whole n t.
      step (expr t) _ _ (λ e t₁. ended_made (args base n t₁) (Filter name whole e))
      ∙ sym (step (expr t) _ _ (λ e t₁. refl)))

pub placed_first : {H : Type 0} (source : List ℕ) (at : ℕ) (spans : H → List Span) (o : Outcome H) (rest : H → Reader (Unit {0})) → continue (continue o (λ h. placed source (spans h) at >> return h)) rest ≡ continue o (λ h. placed source (spans h) at >> rest h)
placed_first source at spans (gives (h, s)) rest = regroup (placed source (spans h) at s) (λ _. return h) rest
placed_first source at spans (fails (cause, left)) rest = refl

module _ (source : List ℕ) (room : Bool) (expr : Reader Expr) (base : Reader BaseExpr) (s : List ℕ) where
  pub base_parts : ended (a_base source room expr base s) ≡ continue (well_placed source base_spans base_head s) (λ h. ensure room TooDeep (length s) >> base_rest source (length s) room expr base h)
  unfolding a_base base_head
  base_parts =
      nest (command base_code base_bytes (length s) s) _ (base_fields (length s)) _ (λ k t. base_splits source (length s) room expr base k t)
      ∙ sym (placed_first source (length s) base_spans (base_head (length s) s) _)

  pub expr_parts : ended (an_expr source room expr base s) ≡ continue (well_placed source expr_spans expr_head s) (λ h. ensure room TooDeep (length s) >> expr_rest source (length s) room expr base h)
  unfolding an_expr expr_head
  expr_parts =
      nest (command expr_code expr_bytes (length s) s) _ (expr_fields (length s)) _ (λ k t. expr_splits source (length s) room expr base k t)
      ∙ sym (placed_first source (length s) expr_spans (expr_head (length s) s) _)

-- LEVELS

-- an expression, once its head is read and placed
abbrev pub expr_after : List ℕ → ℕ → ℕ → ExprHead → Reader (Unit {0})
expr_after source zero at h = ensure false TooDeep at >> expr_rest source at false nothing_below nothing_below h
expr_after source (suc levels) at h = ensure true TooDeep at >> expr_rest source at true (expr_within source levels) (base_within source levels) h

abbrev pub base_after : List ℕ → ℕ → ℕ → BaseHead → Reader (Unit {0})
base_after source zero at h = ensure false TooDeep at >> base_rest source at false nothing_below nothing_below h
base_after source (suc levels) at h = ensure true TooDeep at >> base_rest source at true (expr_within source levels) (base_within source levels) h

expr_levels : (source : List ℕ) (levels : ℕ) (s : List ℕ) → ended (expr_within source levels s) ≡ continue (well_placed source expr_spans expr_head s) (expr_after source levels (length s))
unfolding expr_within base_within
expr_levels source zero s = expr_parts source false nothing_below nothing_below s
expr_levels source (suc levels) s = expr_parts source true (expr_within source levels) (base_within source levels) s

base_levels : (source : List ℕ) (levels : ℕ) (s : List ℕ) → ended (base_within source levels s) ≡ continue (well_placed source base_spans base_head s) (base_after source levels (length s))
unfolding expr_within base_within
base_levels source zero s = base_parts source false nothing_below nothing_below s
base_levels source (suc levels) s = base_parts source true (expr_within source levels) (base_within source levels) s

module _ (source tree : List ℕ) (pos levels : ℕ) where
  pub expr_refused : (cause : Cause) (left : ℕ) → refused cause left ≡ well_placed source expr_spans expr_head (drop pos tree) → refused cause left ≡ ended (expr_within source levels (drop pos tree))
  expr_refused cause left e = sym (expr_levels source levels (drop pos tree) ∙ rw (sym e))

  pub expr_too_deep : (h : ExprHead) (u : List ℕ) → read h u ≡ well_placed source expr_spans expr_head (drop pos tree) → levels ≡ 0 → refused TooDeep (length tree - pos) ≡ ended (expr_within source levels (drop pos tree))
  expr_too_deep h u e none = sym (expr_levels source levels (drop pos tree) ∙ rw (sym e, none, length-drop pos tree))

  pub expr_goes_on : (below : ℕ) (h : ExprHead) (u : List ℕ) → read h u ≡ well_placed source expr_spans expr_head (drop pos tree) → levels ≡ suc below → expr_rest source (length tree - pos) true (expr_within source below) (base_within source below) h u ≡ ended (expr_within source levels (drop pos tree))
  expr_goes_on below h u e some = sym (expr_levels source levels (drop pos tree) ∙ rw (sym e, some, length-drop pos tree))

  pub base_refused : (cause : Cause) (left : ℕ) → refused cause left ≡ well_placed source base_spans base_head (drop pos tree) → refused cause left ≡ ended (base_within source levels (drop pos tree))
  base_refused cause left e = sym (base_levels source levels (drop pos tree) ∙ rw (sym e))

  pub base_too_deep : (h : BaseHead) (u : List ℕ) → read h u ≡ well_placed source base_spans base_head (drop pos tree) → levels ≡ 0 → refused TooDeep (length tree - pos) ≡ ended (base_within source levels (drop pos tree))
  base_too_deep h u e none = sym (base_levels source levels (drop pos tree) ∙ rw (sym e, none, length-drop pos tree))

  pub base_goes_on : (below : ℕ) (h : BaseHead) (u : List ℕ) → read h u ≡ well_placed source base_spans base_head (drop pos tree) → levels ≡ suc below → base_rest source (length tree - pos) true (expr_within source below) (base_within source below) h u ≡ ended (base_within source levels (drop pos tree))
  base_goes_on below h u e some = sym (base_levels source levels (drop pos tree) ∙ rw (sym e, some, length-drop pos tree))

-- CHILDREN IN A ROW

-- what comes after something that was passed over
pub after_read : {A B : Type 0} (o : Outcome A) (u : List ℕ) (m : Reader B) → read tt u ≡ ended o → ended (m u) ≡ ended (continue o (λ _. m))
after_read o u m e = let x = ended_read o u e in rw x.1

pub after_refused : {A B : Type 0} (o : Outcome A) (cause : Cause) (left : ℕ) (f : A → Reader B) → refused cause left ≡ ended o → refused cause left ≡ ended (continue o f)
after_refused o cause left f e = let x = ended_refused o cause left e in rw x

module _ (base : Reader BaseExpr) where
  pub args_end : (left : ℕ) (s : List ℕ) → left ≡ 0 → read tt s ≡ ended (args base left s)
  unfolding args
  args_end left s none = rw none

  pub args_stop : (left : ℕ) (s : List ℕ) (cause : Cause) (at : ℕ) → 0 < left → refused cause at ≡ ended (base s) → refused cause at ≡ ended (args base left s)
  unfolding args
  args_stop zero s cause at some e = absurd (omega arith)
  args_stop (suc n) s cause at some e = rw (ended_refused (base s) cause at e)

  pub args_step : (left n : ℕ) (s u : List ℕ) → left ≡ suc n → read tt u ≡ ended (base s) → ended (args base n u) ≡ ended (args base left s)
  unfolding args
  args_step left n s u some e = let x = ended_read (base s) u e in rw (some, x.1) (sym (ended_made (args base n u) (arg x.0)))

  module _ (source : List ℕ) (at : ℕ) where
    pub pairs_end : (left : ℕ) (s : List ℕ) → left ≡ 0 → read tt s ≡ ended (pairs source at true base left [] s)
    unfolding pairs
    pairs_end left s none = rw none

    pub pairs_cut : (left : ℕ) (s : List ℕ) → 0 < left → refused Malformed at ≡ string_of at s → refused Malformed at ≡ ended (pairs source at true base left [] s)
    unfolding pairs
    pairs_cut zero s some e = absurd (omega arith)
    pairs_cut (suc n) s some e = rw (sym e)

    pub pairs_misplaced : (left : ℕ) (s : List ℕ) (k : String) (u : List ℕ) → 0 < left → read k u ≡ string_of at s → false ≡ inside source k.span → refused Misplaced at ≡ ended (pairs source at true base left [] s)
    unfolding pairs
    pairs_misplaced zero s k u some e wrong = absurd (omega arith)
    pairs_misplaced (suc n) s k u some e wrong = rw (sym e, sym wrong)

    pub pairs_stop : (left : ℕ) (s : List ℕ) (k : String) (u : List ℕ) (cause : Cause) (off : ℕ) → 0 < left → read k u ≡ string_of at s → true ≡ inside source k.span → refused cause off ≡ ended (base u) → refused cause off ≡ ended (pairs source at true base left [] s)
    unfolding pairs
    pairs_stop zero s k u cause off some e right f = absurd (omega arith)
    pairs_stop (suc n) s k u cause off some e right f = rw (sym e, sym right, ended_refused (base u) cause off f)

    pub pairs_step : (left n : ℕ) (s : List ℕ) (k : String) (u v : List ℕ) → left ≡ suc n → read k u ≡ string_of at s → true ≡ inside source k.span → read tt v ≡ ended (base u) → ended (pairs source at true base n [] v) ≡ ended (pairs source at true base left [] s)
    unfolding pairs
    pairs_step left n s k u v some e right f =
        let x = ended_read (base u) v f in
        rw (some, sym e, sym right, x.1) (sym (ended_made (pairs source at true base n [] v) (pair k x.0)))

-- A LITERAL'S VALUE

literal_is : (s : List ℕ) → plain_head (length s) s ≡ literal_value s
unfolding plain_head literal_value
literal_is s = refl

module _ (tree : List ℕ) (pos : ℕ) (r : Option (PlainValue × ℕ)) (takes : Takes plain_of tree pos plain_head r) where
  pub literal_passed : (v : PlainValue) (end : ℕ) → r ≡ Some (v, end) → read tt (drop end tree) ≡ ended (literal_value (drop pos tree))
  literal_passed v end e =
      let x = rw e at takes in
      ap ended (x (length (drop pos tree)) ∙ literal_is (drop pos tree))

  pub literal_cut : r ≡ None → refused Malformed (length tree - pos) ≡ ended (literal_value (drop pos tree))
  literal_cut e =
      let x = rw e at takes in
      ap (λ n. refused Malformed n) (sym (length-drop pos tree)) ∙ ap ended (x (length (drop pos tree)) ∙ literal_is (drop pos tree))

-- ANSWERS OF THE CHECKER

-- the exit of a `?`
pub exit : (tree : List ℕ) (r : Result ℕ Refusal) (e : Refusal) (o : Outcome (Unit {0})) → IsErrAnd r (λ y. y ≡ e) → refused (cause_of e) (length tree - offset_of e) ≡ o → reached tree r ≡ o
exit tree r e o h same = let p = err_from_is_err_and r h in rw (p.1, p.2) same

-- THE CASES OF THE CHECKER'S FUNCTIONS

pub ruleset expr_cases = (expr_refused, expr_too_deep)

pub ruleset base_cases = (base_refused, base_too_deep, base_goes_on)

pub ruleset args_cases = (args_end, args_stop, args_step)

pub ruleset pairs_cases = (after_read, pairs_end, pairs_cut, pairs_misplaced)
