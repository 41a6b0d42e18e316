-- Words of a line, read byte by byte.
use Rattle.std.proofs.Common.{◌≡◌, ℕ, ◌+◌, ◌-◌, ◌*◌, ◌<◌, ◌≤◌, true, false, Bor, List, [], ◌∷◌, ◌++◌, length, get_or, take, drop, take_all, Some, None, Ok, Err, codes, Result, sym, refl, ap, subst, ◌∙◌, append_assoc, arith, ne_eqb, length-drop, length-take}
use Rattle.std.proofs.lemmas.Cmp.{nat_list_eq_equiv}
use mathlib.Core.Option.{none, some}
use Rattle.std.specs.Str.{bytes_eq as same_text}
use Rattle.std.specs.Option.{ok_or}
use Rattle.std.specs.declared.option.Option.{Option}
use Rattle.meaning.specs.Or.{Or, fails, gives}
use Rattle.calls.specs.declared.word.BadLine.{BadLine}
use Rattle.calls.specs.declared.word.BadLine.TheVariants.{MissingWord, MoreWords, NoCall, NoFormatter, NotHex, BadEscape, OpenQuote, NoSpace}
use Rattle.calls.specs.declared.line.Line.{Line}
use Rattle.calls.specs.declared.line.FormatterName.{FormatterName}
use Rattle.calls.specs.declared.line.FormatterName.TheVariants.{Plain, Lat, Lon}
use Rattle.calls.specs.declared.word.Failure.{Failure}
use Rattle.calls.specs.declared.word.Failure.TheVariants.{Memory, Bad}
use Rattle.calls.specs.Calls.{Asks, Call, Called, added, call_of, formatted, formatter, line_end, loaded, named, passed_over, read_off, space, supplied}
use Rattle.calls.specs.Words.{NextDigit, Reads, Told, before, behind_backslash, digit, hex, second_digit, unescaped, unquote, word}

-- bytes that were read before the others
abbrev pub behind : List ℕ → Or BadLine (List ℕ × List ℕ) → Or BadLine (List ℕ × List ℕ)
behind bytes (gives (more, rest)) = gives (bytes ++ more, rest)
behind bytes (fails bad) = fails bad

pub behind_none : (o : Or BadLine (List ℕ × List ℕ)) → behind [] o ≡ o
behind_none (gives (more, rest)) = refl
behind_none (fails bad) = refl

pub behind_one : (bytes : List ℕ) (b : ℕ) (o : Or BadLine (List ℕ × List ℕ)) → behind bytes (before b o) ≡ behind (bytes ++ (b ∷ [])) o
behind_one bytes b (gives (more, rest)) = ap (λ s. gives (s, rest)) (sym (append_assoc bytes (b ∷ []) more))
behind_one bytes b (fails bad) = refl

-- WHAT STANDS IN FRONT

-- what is behind the first byte
pub behind_first : (c : ℕ) (s : List ℕ) → take (length (c ∷ s) - 1) (drop 1 (c ∷ s)) ≡ s
behind_first c s = take_all (length (c ∷ s) - 1) s (omega arith)

pub shorter : (line : List ℕ) → 1 ≤ length line → length (take (length line - 1) (drop 1 line)) < length line
shorter line h = omega (arith, length-drop 1 line, length-take (length line - 1) (drop 1 line))

pub ok_or_err : {T E : Type 0} (o : Option T) (e b : E) → Err e ≡ ok_or o b → (o ≡ None) × (e ≡ b)
ok_or_err None e b is = (refl, cc)
ok_or_err (Some n) e b is = absurd cc

-- digits
pub digit_none : (line : List ℕ) → length line < 1 → NextDigit line (Ok None)
unfolding hex
digit_none [] h = (refl, λ high. refl)
digit_none (c ∷ s) h = absurd (omega arith)

pub digit_space : (line : List ℕ) → 1 ≤ length line → get_or line 0 0 ≡ 32 → NextDigit line (Ok None)
unfolding hex
digit_space [] h is = absurd (omega arith)
digit_space (c ∷ s) h is = (rw is, λ high. rw is)

pub digit_bad : (line : List ℕ) → 1 ≤ length line → (get_or line 0 0 ≡ 32 → ⊥) → digit (get_or line 0 0) ≡ none → NextDigit line (Err NotHex)
unfolding hex
digit_bad [] h other bad = absurd (omega arith)
digit_bad (c ∷ s) h other bad = (rw (ne_eqb c 32 other, bad), λ high. rw (ne_eqb c 32 other, bad))

pub digit_good : (line : List ℕ) (n : ℕ) → 1 ≤ length line → (get_or line 0 0 ≡ 32 → ⊥) → digit (get_or line 0 0) ≡ some n →
    let rest = take (length line - 1) (drop 1 line) in
    (hex line ≡ second_digit n rest) × ((high : ℕ) → second_digit high line ≡ before (high * 16 + n) (hex rest))
unfolding hex
digit_good [] n h other good = absurd (omega arith)
digit_good (c ∷ s) n h other good = (rw (behind_first c s, ne_eqb c 32 other, good), λ high. rw (behind_first c s, ne_eqb c 32 other, good))

-- texts
pub quoted_none : (line : List ℕ) → length line < 1 → unquote line ≡ fails OpenQuote
unfolding unquote
quoted_none [] h = refl
quoted_none (c ∷ s) h = absurd (omega arith)

pub quoted_closes : (line : List ℕ) → 1 ≤ length line → get_or line 0 0 ≡ 34 → unquote line ≡ gives ([], take (length line - 1) (drop 1 line))
unfolding unquote
quoted_closes [] h is = absurd (omega arith)
quoted_closes (c ∷ s) h is = rw (behind_first c s, is)

pub quoted_plain : (line : List ℕ) → 1 ≤ length line → (get_or line 0 0 ≡ 34 → ⊥) → (get_or line 0 0 ≡ 92 → ⊥) → unquote line ≡ before (get_or line 0 0) (unquote (take (length line - 1) (drop 1 line)))
unfolding unquote
quoted_plain [] h quote slash = absurd (omega arith)
quoted_plain (c ∷ s) h quote slash = rw (behind_first c s, ne_eqb c 34 quote, ne_eqb c 92 slash)

pub quoted_escape : (line : List ℕ) → 1 ≤ length line → get_or line 0 0 ≡ 92 → unquote line ≡ behind_backslash (take (length line - 1) (drop 1 line))
unfolding unquote
quoted_escape [] h is = absurd (omega arith)
quoted_escape (c ∷ s) h is = rw (behind_first c s, is)

pub escape_none : (line : List ℕ) → length line < 1 → behind_backslash line ≡ fails OpenQuote
unfolding unquote
escape_none [] h = refl
escape_none (c ∷ s) h = absurd (omega arith)

pub escape_bad : (line : List ℕ) → 1 ≤ length line → unescaped (get_or line 0 0) ≡ none → behind_backslash line ≡ fails BadEscape
unfolding unquote
escape_bad [] h bad = absurd (omega arith)
escape_bad (c ∷ s) h bad = rw bad

pub escape_good : (line : List ℕ) (b : ℕ) → 1 ≤ length line → unescaped (get_or line 0 0) ≡ some b → behind_backslash line ≡ before b (unquote (take (length line - 1) (drop 1 line)))
unfolding unquote
escape_good [] b h good = absurd (omega arith)
escape_good (c ∷ s) b h good = rw (behind_first c s, good)

-- whole words
pub word_none : (line : List ℕ) → length line < 1 → word line ≡ fails MissingWord
unfolding word
word_none [] h = refl
word_none (c ∷ s) h = absurd (omega arith)

pub word_space : (line : List ℕ) → 1 ≤ length line → get_or line 0 0 ≡ 32 → word line ≡ fails MissingWord
unfolding word
word_space [] h is = absurd (omega arith)
word_space (c ∷ s) h is = rw is

pub word_dash : (line : List ℕ) → 1 ≤ length line → get_or line 0 0 ≡ 45 → word line ≡ gives ([], take (length line - 1) (drop 1 line))
unfolding word
word_dash [] h is = absurd (omega arith)
word_dash (c ∷ s) h is = rw (behind_first c s, is)

pub word_quote : (line : List ℕ) → 1 ≤ length line → get_or line 0 0 ≡ 34 → word line ≡ unquote (take (length line - 1) (drop 1 line))
unfolding word
word_quote [] h is = absurd (omega arith)
word_quote (c ∷ s) h is = rw (behind_first c s, is)

pub word_hex : (line : List ℕ) → 1 ≤ length line → (get_or line 0 0 ≡ 32 → ⊥) → (get_or line 0 0 ≡ 45 → ⊥) → (get_or line 0 0 ≡ 34 → ⊥) → word line ≡ hex line
unfolding word
word_hex [] h a b d = absurd (omega arith)
word_hex (c ∷ s) h a b d = rw (ne_eqb c 32 a, ne_eqb c 45 b, ne_eqb c 34 d)

-- what is read in another way is read alike
pub told_as : {A X : Type 0} (means : X → A) (line left : List ℕ) (m n : Reads A) (r : Result (X × Bor (List ℕ)) Failure) → m line ≡ n left → Told means left n r → Told means line m r
told_as means line left m n (Ok r) same told = same ∙ told
told_as means line left m n (Err Memory) same told = tt
told_as means line left m n (Err (Bad b)) same told = same ∙ told

-- SPACES, AND WHOLE LINES

pub space_none : (line : List ℕ) → length line < 1 → space line ≡ fails MissingWord
unfolding space
space_none [] h = refl
space_none (c ∷ s) h = absurd (omega arith)

pub space_right : (line : List ℕ) → 1 ≤ length line → get_or line 0 0 ≡ 32 → space line ≡ gives (tt, take (length line - 1) (drop 1 line))
unfolding space
space_right [] h is = absurd (omega arith)
space_right (c ∷ s) h is = rw (behind_first c s, is)

pub space_wrong : (line : List ℕ) → 1 ≤ length line → (get_or line 0 0 ≡ 32 → ⊥) → space line ≡ fails NoSpace
unfolding space
space_wrong [] h other = absurd (omega arith)
space_wrong (c ∷ s) h other = rw (ne_eqb c 32 other)

pub nothing_asked : (line : List ℕ) → length line < 1 → call_of line ≡ gives passed_over
unfolding call_of
nothing_asked [] e = refl
nothing_asked (c ∷ s) e = absurd (omega arith)

pub comment_asks : (line : List ℕ) → 1 ≤ length line → get_or line 0 0 ≡ 35 → call_of line ≡ gives passed_over
unfolding call_of
comment_asks [] h e = absurd (omega arith)
comment_asks (c ∷ s) h e = rw e

pub line_none : (line : List ℕ) → length line < 1 → line_end line ≡ gives (tt, [])
unfolding line_end
line_none [] h = refl
line_none (c ∷ s) h = absurd (omega arith)

pub line_more : (line : List ℕ) → 1 ≤ length line → line_end line ≡ fails MoreWords
unfolding line_end
line_more [] h = absurd (omega arith)
line_more (c ∷ s) h = refl

-- where a word of the call fails
module _ {X : Type 0} (means : X → List ℕ) (words : List ℕ) where
  pub name_fails : (e : Failure) → Told means words word (Err e) → Called (read_off (added words)) (Err e)
  unfolding added
  name_fails Memory told = tt
  name_fails (Bad b) told = rw told

  module _ (name behind_name second : List ℕ) (first : word words ≡ gives (name, behind_name)) (gap : space behind_name ≡ gives (tt, second)) where
    pub source_fails : (e : Failure) → Told means second word (Err e) → Called (read_off (added words)) (Err e)
    unfolding added
    source_fails Memory told = tt
    source_fails (Bad b) told = rw (first, gap, told)

    module _ (source behind_source third : List ℕ) (is : word second ≡ gives (source, behind_source)) (gap' : space behind_source ≡ gives (tt, third)) where
      pub tree_fails : (e : Failure) → Told means third word (Err e) → Called (read_off (added words)) (Err e)
      unfolding added
      tree_fails Memory told = tt
      tree_fails (Bad b) told = rw (first, gap, is, gap', told)

-- where the word of a load fails
pub packed_fails : {X : Type 0} (means : X → List ℕ) (words : List ℕ) (e : Failure) → Told means words word (Err e) → Called (read_off (loaded words)) (Err e)
unfolding loaded
packed_fails means words Memory told = tt
packed_fails means words (Bad b) told = rw told

-- that no call stands there
pub called_bad : {o : Or BadLine Call} (e : Failure) (bad : BadLine) → e ≡ Bad bad → o ≡ fails bad → Called o (Err e)
called_bad {o} e bad is fail = subst (λ e. Called o (Err e)) (sym is) fail

-- where the value of a format fails
pub value_fails : {X : Type 0} (means : X → List ℕ) (words : List ℕ) (name : FormatterName) (behind_name second : List ℕ) → formatter words ≡ gives (name, behind_name) → space behind_name ≡ gives (tt, second) → (e : Failure) → Told means second word (Err e) → Called (read_off (formatted words)) (Err e)
unfolding formatted
value_fails means words name behind_name second first gap Memory told = tt
value_fails means words name behind_name second first gap (Bad b) told = rw (first, gap, told)

-- the word of a formatter
module _ (words rest : List ℕ) where
  pub is_plain : same_text (take 5 words) (codes "plain") ≡ true → rest ≡ drop 5 words → formatter words ≡ gives (Plain, rest)
  unfolding formatter
  is_plain same left = rw (nat_list_eq_equiv.symm (codes "plain") (take 5 words), same, ← left) refl

  module _ (not_plain : same_text (take 5 words) (codes "plain") ≡ false) where
    pub is_lat : same_text (take 3 words) (codes "lat") ≡ true → rest ≡ drop 3 words → formatter words ≡ gives (Lat, rest)
    unfolding formatter
    is_lat same left =
        rw (nat_list_eq_equiv.symm (codes "plain") (take 5 words), not_plain, nat_list_eq_equiv.symm (codes "lat") (take 3 words), same, ← left) refl

    module _ (not_lat : same_text (take 3 words) (codes "lat") ≡ false) where
      pub is_lon : same_text (take 3 words) (codes "lon") ≡ true → rest ≡ drop 3 words → formatter words ≡ gives (Lon, rest)
      unfolding formatter
      is_lon same left =
          rw (nat_list_eq_equiv.symm (codes "plain") (take 5 words), not_plain, nat_list_eq_equiv.symm (codes "lat") (take 3 words), not_lat, nat_list_eq_equiv.symm (codes "lon") (take 3 words), same, ← left) refl

-- no formatter has the word
pub is_unnamed : (words : List ℕ) → same_text (take 5 words) (codes "plain") ≡ false → same_text (take 3 words) (codes "lat") ≡ false → same_text (take 3 words) (codes "lon") ≡ false → formatter words ≡ fails NoFormatter
unfolding formatter
is_unnamed words not_plain not_lat not_lon =
    rw (nat_list_eq_equiv.symm (codes "plain") (take 5 words), not_plain, nat_list_eq_equiv.symm (codes "lat") (take 3 words), not_lat, nat_list_eq_equiv.symm (codes "lon") (take 3 words), not_lon) refl

-- the name of a call, and what is read behind it
module _ (line words : List ℕ) where
  pub is_add : same_text (take 4 line) (codes "add ") ≡ true → words ≡ drop 4 line → (r : Result Line Failure) → Called (read_off (added words)) r → Called (named line) r
  is_add same left r told = rw (nat_list_eq_equiv.symm (codes "add ") (take 4 line), same, ← left) told

  module _ (not_add : same_text (take 4 line) (codes "add ") ≡ false) where
    pub is_supply : same_text (take 7 line) (codes "supply ") ≡ true → words ≡ drop 7 line → (r : Result Line Failure) → Called (read_off (supplied words)) r → Called (named line) r
    is_supply same left r told = rw (nat_list_eq_equiv.symm (codes "add ") (take 4 line), not_add, nat_list_eq_equiv.symm (codes "supply ") (take 7 line), same, ← left) told

    module _ (not_supply : same_text (take 7 line) (codes "supply ") ≡ false) where
      pub is_load : same_text (take 5 line) (codes "load ") ≡ true → words ≡ drop 5 line → (r : Result Line Failure) → Called (read_off (loaded words)) r → Called (named line) r
      is_load same left r told =
          rw (nat_list_eq_equiv.symm (codes "add ") (take 4 line), not_add, nat_list_eq_equiv.symm (codes "supply ") (take 7 line), not_supply, nat_list_eq_equiv.symm (codes "load ") (take 5 line), same, ← left) told

      module _ (not_load : same_text (take 5 line) (codes "load ") ≡ false) where
        pub is_format : same_text (take 7 line) (codes "format ") ≡ true → words ≡ drop 7 line → (r : Result Line Failure) → Called (read_off (formatted words)) r → Called (named line) r
        is_format same left r told =
            rw (nat_list_eq_equiv.symm (codes "add ") (take 4 line), not_add, nat_list_eq_equiv.symm (codes "supply ") (take 7 line), not_supply, nat_list_eq_equiv.symm (codes "load ") (take 5 line), not_load, nat_list_eq_equiv.symm (codes "format ") (take 7 line), same, ← left) told

        pub is_none : same_text (take 7 line) (codes "format ") ≡ false → named line ≡ fails NoCall
        is_none same =
            rw (nat_list_eq_equiv.symm (codes "add ") (take 4 line), not_add, nat_list_eq_equiv.symm (codes "supply ") (take 7 line), not_supply, nat_list_eq_equiv.symm (codes "load ") (take 5 line), not_load, nat_list_eq_equiv.symm (codes "format ") (take 7 line), same)

-- a line that is neither empty nor a comment
module _ (line : List ℕ) (h : 1 ≤ length line) (other : get_or line 0 0 ≡ 35 → ⊥) where
  is_call : call_of line ≡ named line
  unfolding call_of
  is_call = by line h other
    where
      by : (line : List ℕ) → 1 ≤ length line → (get_or line 0 0 ≡ 35 → ⊥) → call_of line ≡ named line
      by [] h other = absurd (omega arith)
      by (c ∷ s) h other = rw (ne_eqb c 35 other)

  pub line_calls : (l : Line) → Called (named line) (Ok l) → Asks line (Ok (Some l))
  line_calls l told = is_call ∙ told

  pub line_fails : (e : Failure) → Called (named line) (Err e) → Asks line (Err e)
  line_fails Memory told = tt
  line_fails (Bad b) told = is_call ∙ told

-- WHAT A READER NEEDS OF THESE

pub ruleset digits = (digit_bad, ok_or_err)

pub ruleset texts = (quoted_none, quoted_closes, quoted_plain, quoted_escape, escape_none, escape_bad, escape_good, shorter, ok_or_err)

pub ruleset words = (word_none, word_space, word_dash, word_quote, word_hex, told_as)

pub ruleset spaces = (space_none, space_right, space_wrong)

pub ruleset additions = (line_none, line_more, name_fails, source_fails, tree_fails)

pub ruleset supplies = (line_none, line_more)

pub ruleset loads = (line_none, line_more, packed_fails)

pub ruleset formatters = (is_plain, is_lat, is_lon, is_unnamed)

pub ruleset formats = (line_none, line_more, value_fails)

pub ruleset names = (is_add, is_supply, is_load, is_format, is_none)

pub ruleset lines = (nothing_asked, comment_asks, line_calls, line_fails)
