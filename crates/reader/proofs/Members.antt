-- Members read one after another, and a variable's part of the tree.
use Rattle.std.proofs.Common.{◌≡◌, ℕ, zero, suc, ◌+◌, ◌-◌, ◌<◌, ◌≤◌, Bool, true, false, ◌⊎◌, List, [], ◌∷◌, ◌++◌, length, take, drop, Some, None, Option, sym, refl, ap, ◌∙◌, inl, inr, append_assoc, arith, length-append, length-drop, drop-drop, le-leb}
use borrow.Author.Tests.{lt-leb}
use Rattle.meaning.specs.declared.tree.Member.{Member}
use Rattle.meaning.specs.Tree.{Var}
use Rattle.meaning.specs.declared.tree.Access.TheVariants.{Index, Key}
use Rattle.meaning.specs.Tree.{members}
use Rattle.packing.specs.Packing.{flag_byte}
use Rattle.meaning.specs.Or.{gives, fails}
use Rattle.packing.specs.Reader.{Outcome, read, refused, Reader, byte, word, flag}
use Rattle.meaning.specs.Step.{return, continue}
use Rattle.meaning.specs.declared.fault.Cause.{Cause}
use Rattle.meaning.specs.declared.fault.Cause.TheVariants.{Malformed}
use Rattle.packing.specs.Unpacking.{span, access_of, member, more_members, variable, op_of}
use Rattle.packing.proofs.Readers.{split, finish, never_read, byte_packed, byte_reads, word_packed, word_reads, flag_packed, flag_reads}
use Rattle.std.specs.Iterator.{YieldsFirst}
use Rattle.reader.specs.declared.field.Members.{Members}
use Rattle.reader.specs.Fields.{ended, decoded, members_of, variable_members}

-- what is made of a reading does not change where it ends
pub ended_made : {A B : Type 0} (o : Outcome A) (f : A → B) → ended (continue o (λ a. return (f a))) ≡ ended o
ended_made (gives (a, s)) f = refl
ended_made (fails (cause, left)) f = refl

pub members_stop : (left n at : ℕ) (s : List ℕ) → left ≡ suc n → refused Malformed at ≡ member at s → refused Malformed at ≡ ended (more_members left at s)
unfolding more_members
members_stop left n at s some e = rw (some, sym e)

pub members_step : (left n at : ℕ) (m : Member) (s u : List ℕ) → left ≡ suc n → read m u ≡ member at s → ended (more_members n at u) ≡ ended (more_members left at s)
unfolding more_members
members_step left n at m s u some e = rw (some, sym e) (sym (ended_made (more_members n at u) (λ ms. m ∷ ms)))

pub members_end : (left at : ℕ) (s : List ℕ) → left ≡ 0 → read tt s ≡ ended (more_members left at s)
unfolding more_members
members_end left at s none = rw none

pub ended_read : {A : Type 0} (o : Outcome A) (t : List ℕ) → read tt t ≡ ended o → (a : A) × (o ≡ read a t)
ended_read (gives (a, s)) t e = (a, finish (λ _ u. read a u ≡ read a t) e refl)
ended_read (fails (cause, left)) t e = absurd (never_read (sym e))

-- A READING DEPENDS ON WHAT IT READS ALONE

pub record Local {A : Type 0} (m : ℕ → Reader A) : Type 0 where
  pub tells : (at at' : ℕ) (s : List ℕ) (a : A) (t : List ℕ) → m at s ≡ read a t → (p : List ℕ) × (s ≡ p ++ t) × ((u : List ℕ) → m at' (p ++ u) ≡ read a u)

pure_local : {A : Type 0} (a : A) → Local (λ at. return a)
pure_local a = record { tells = λ at at' s b t e. ([], finish (λ b t. s ≡ t) e refl, λ u. finish (λ b t. return a u ≡ read b u) e refl) }

then_local : {A B : Type 0} (m : ℕ → Reader A) (k : ℕ → A → Reader B) → Local m → ((a : A) → Local (λ at. k at a)) → Local (λ at s. continue (m at s) (k at))
then_local m k one two = record {
  tells = λ at at' s b t e.
      split (m at s) e (λ a u h e₁.
      let x = one.tells at at' s a u h in
      let y = (two a).tells at at' u b t e₁ in
      (x.0 ++ y.0, x.1 ∙ ap (λ r. x.0 ++ r) y.1 ∙ sym (append_assoc x.0 y.0 t), λ v. rw (append_assoc x.0 y.0 v, x.2 (y.0 ++ v)) (y.2 v)));
}

byte_local : Local byte
byte_local = record {
  tells = λ at at' s b t e. let p = (byte_packed at).tells s b t e in (b ∷ [], p.0, λ u. byte_reads at' b u p.1);
}

flag_local : Local flag
flag_local = record {
  tells = λ at at' s f t e. let p = (flag_packed at).tells s f t e in (flag_byte f ∷ [], p.0, λ u. flag_reads at' f u);
}

word_local : (k : ℕ) → Local (word k)
word_local k = record {
  tells = λ at at' s n t e. let p = (word_packed k at).tells s n t e in (_, p.0, λ u. word_reads k at' n u p.1);
}

span_local : Local span
unfolding span
span_local = then_local (word 2) _ (word_local 2) (λ start. then_local (word 2) _ (word_local 2) (λ end. pure_local (record { start = start; end = end })))

access_local : (keyed : Bool) → Local (λ at. access_of at keyed)
unfolding access_of
access_local false = then_local (word 4) _ (word_local 4) (λ n. then_local span _ span_local (λ s. pure_local (Index n s)))
access_local true = then_local span _ span_local (λ s. pure_local (Key s))

member_local : Local member
unfolding member
member_local =
    then_local flag _ flag_local (λ optional.
    then_local flag _ flag_local (λ keyed.
    then_local (λ at. access_of at keyed) _ (access_local keyed) (λ access.
    then_local span _ span_local (λ s. pure_local (record { op = op_of optional; access = access; span = s })))))

members_local : (n : ℕ) → Local (more_members n)
unfolding more_members
members_local zero = pure_local []
members_local (suc n) = then_local member _ member_local (λ m. then_local (more_members n) _ (members_local n) (λ ms. pure_local (m ∷ ms)))

-- THE PART OF THE TREE THAT MEMBERS TAKE

take_seam : (p t : List ℕ) (k : ℕ) → length p ≡ k → take k (p ++ t) ≡ p
take_seam [] t k e = rw (sym e)
take_seam (b ∷ p) t k e = rw (sym e) (ap (λ q. b ∷ q) (take_seam p t (length p) refl))

append_nothing : (p : List ℕ) → p ++ [] ≡ p
append_nothing [] = refl
append_nothing (b ∷ p) = ap (λ q. b ∷ q) (append_nothing p)

-- a part of the bytes that reads as something is read by itself
part_reads : {A : Type 0} (m : ℕ → Reader A) → Local m → (at k : ℕ) (s : List ℕ) (a : A) → k ≤ length s → m at s ≡ read a (drop k s) → m 0 (take k s) ≡ read a []
part_reads m known at k s a h e =
    let x = known.tells at 0 s a (drop k s) e in
    let sizes : length s ≡ length x.0 + length (drop k s) = ap length x.1 ∙ length-append x.0 (drop k s) in
    let rest : length (drop k s) ≡ length s - k = length-drop k s in
    let size : length x.0 ≡ k = omega arith in
    let part : take k s ≡ x.0 = ap (take k) x.1 ∙ take_seam x.0 (drop k s) k size in
    ap (m 0) (part ∙ sym (append_nothing x.0)) ∙ x.2 []

decoded_read : (n : ℕ) (s t : List ℕ) (ms : List Member) → more_members n 0 s ≡ read ms t → decoded n s ≡ ms
unfolding more_members decoded
decoded_read zero s t ms e = finish (λ ms t. [] ≡ ms) e refl
decoded_read (suc n) s t ms e =
    split (member 0 s) e (λ m u h e₁.
    split (more_members n 0 u) e₁ (λ rest v h₁ e₂.
    rw h (ap (λ r. m ∷ r) (decoded_read n u v rest h₁) ∙ finish (λ ms t. m ∷ rest ≡ ms) e₂ refl)))

pub decoded_there : (n at k : ℕ) (s : List ℕ) → k ≤ length s → read tt (drop k s) ≡ ended (more_members n at s) → more_members n at s ≡ read (decoded n (take k s)) (drop k s)
decoded_there n at k s h e =
    let x = ended_read (more_members n at s) (drop k s) e in
    x.1 ∙ ap (λ ms. read ms (drop k s)) (sym (decoded_read n (take k s) [] x.0 (part_reads (more_members n) (members_local n) at k s x.0 h x.1)))

listed : (m : Member) (o : Outcome (List Member)) → continue (continue o (λ ms. return (record { first = m; rest = ms }))) (λ (v : Var). return (members v)) ≡ continue o (λ ms. return (m ∷ ms))
listed m (gives (ms, s)) = refl
listed m (fails (cause, left)) = refl

many : (k at : ℕ) (o : Outcome Member) → continue (continue o (λ m s. continue (more_members k at s) (λ ms. return (record { first = m; rest = ms })))) (λ (v : Var). return (members v)) ≡ continue o (λ m s. continue (more_members k at s) (λ ms. return (m ∷ ms)))
many k at (gives (m, s)) = listed m (more_members k at s)
many k at (fails (cause, left)) = refl

-- a variable of a count that is allowed is as many members
pub variable_is : (n at : ℕ) (s u : List ℕ) → 1 ≤ n → n ≤ 8 → read n u ≡ byte at s → variable_members at s ≡ more_members n at u
unfolding variable_members variable more_members
variable_is n at s u low high e =
    let some : n ≡ suc (n - 1) = omega arith in
    rw (sym e, le-leb 1 n low, le-leb n 8 high) (many (n - 1) at (member at u) ∙ ap (λ k. more_members k at u) (sym some))

pub variable_not : (n at : ℕ) (s u : List ℕ) → (n ≡ 0) ⊎ ((n ≡ 0 → ⊥) × (8 < n)) → read n u ≡ byte at s → refused Malformed at ≡ variable_members at s
unfolding variable_members variable
variable_not n at s u (inl none) e = rw (sym e, none)
variable_not n at s u (inr more) e = rw (sym e, lt-leb n 8 more.1, le-leb 1 n (low more.1))
  where
    low : 8 < n → 1 ≤ n
    low h = omega arith

pub variable_cut : (at : ℕ) (s : List ℕ) → refused Malformed at ≡ byte at s → refused Malformed at ≡ variable_members at s
unfolding variable_members variable
variable_cut at s e = rw (sym e)

pub ended_refused : {A : Type 0} (o : Outcome A) (cause : Cause) (left : ℕ) → refused cause left ≡ ended o → o ≡ refused cause left
ended_refused (gives (a, s)) cause left e = absurd (never_read e)
ended_refused (fails (cause', left')) cause left e = cc

pub members_there : (tree : List ℕ) (n at start end : ℕ) → (start ≤ end) × (end ≤ length tree) → read tt (drop end tree) ≡ ended (more_members n at (drop start tree)) → read (decoded n (take (end - start) (drop start tree))) (drop end tree) ≡ more_members n at (drop start tree)
members_there tree n at start end within e =
    let forward = within.0 in
    let inside = within.1 in
    let whole : start + (end - start) ≡ end = omega arith in
    let here : drop (end - start) (drop start tree) ≡ drop end tree = drop-drop (end - start) start tree ∙ ap (λ k. drop k tree) whole in
    let left : length (drop start tree) ≡ length tree - start = length-drop start tree in
    sym (rw (sym here) (decoded_there n at (end - start) (drop start tree) (omega arith) (rw here e)))

-- MEMBERS ONE BY ONE

pub decoded_more : (left : ℕ) (m : Member) (s u : List ℕ) → 1 ≤ left → read m u ≡ member 0 s → decoded left s ≡ m ∷ decoded (left - 1) u
unfolding decoded
decoded_more zero m s u some e = absurd (omega arith)
decoded_more (suc n) m s u some e =
    let less : suc n - 1 ≡ n = omega arith in
    rw (less, ← e)

pub decoded_cut : (left : ℕ) (s : List ℕ) → refused Malformed 0 ≡ member 0 s → decoded left s ≡ []
unfolding decoded
decoded_cut zero s e = refl
decoded_cut (suc n) s e = rw (← e)

pub decoded_none : (left : ℕ) (s : List ℕ) → left ≡ 0 → decoded left s ≡ []
unfolding decoded
decoded_none left s none = rw none

-- a turn of a loop over members
pub turn : (ms others : Members) (o : Option Member) (m : Member) → o ≡ Some m → YieldsFirst members_of ms o others → members_of ms ≡ m ∷ members_of others
turn ms others o m is steps = rw is at steps

pub no_turn : (ms others : Members) (o : Option Member) → o ≡ None → YieldsFirst members_of ms o others → members_of ms ≡ []
no_turn ms others o is steps = (rw is at steps).0
