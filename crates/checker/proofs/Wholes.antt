-- What the check of a whole template comes to, once its steps are known.
use Rattle.std.proofs.Common.{◌≡◌, ℕ, ◌+◌, ◌-◌, ◌<◌, ◌≤◌, true, false, List, [], ◌∷◌, length, get_or, drop, sym, ap, ◌∙◌, add-one, arith, length-drop, drop_of_length-le, drop-cons, le-leb}
use borrow.Author.Tests.{lt-leb}
use Rattle.packing.specs.Rfc3629.{well_formed}
use Rattle.packing.specs.Limits.{most_bytes}
use Rattle.packing.specs.Reader.{read, refused}
use Rattle.meaning.specs.declared.fault.Cause.{Cause}
use Rattle.meaning.specs.Fault.{fault}
use Rattle.meaning.specs.declared.fault.Cause.TheVariants.{BadSource, Malformed}
use Rattle.meaning.specs.Or.{gives, fails}
use Rattle.packing.specs.Unpacking.{answer, unpack, scope_within}
use Rattle.reader.specs.Fields.{ended}
use Rattle.checker.specs.Whole.{verdict}
use Rattle.reader.proofs.Members.{ended_read, ended_refused}

module _ (source tree : List ℕ) where
  pub source_long : most_bytes < length source → verdict (unpack source tree) ≡ fails (fault BadSource 0)
  unfolding unpack
  source_long h = rw (lt-leb (length source) most_bytes h)

  pub source_no_text : length source ≤ most_bytes → false ≡ well_formed source → verdict (unpack source tree) ≡ fails (fault BadSource 0)
  unfolding unpack
  source_no_text h wrong = rw (le-leb (length source) most_bytes h, sym wrong)

  module _ (short : length source ≤ most_bytes) (right : true ≡ well_formed source) where
    pub tree_long : most_bytes < length tree → verdict (unpack source tree) ≡ fails (fault Malformed 0)
    unfolding unpack
    tree_long h = rw (le-leb (length source) most_bytes short, sym right, lt-leb (length tree) most_bytes h)

    module _ (fits : length tree ≤ most_bytes) where
      whole : verdict (answer (length tree) (scope_within source 14 tree)) ≡ verdict (unpack source tree)
      unfolding unpack
      whole = rw (le-leb (length source) most_bytes short, sym right, le-leb (length tree) most_bytes fits)

      pub template_faulty : (cause : Cause) (off : ℕ) → off ≤ length tree → refused cause (length tree - off) ≡ ended (scope_within source 14 tree) → fails (fault cause off) ≡ verdict (unpack source tree)
      unfolding answer
      template_faulty cause off h e =
          let x = ended_refused (scope_within source 14 tree) cause (length tree - off) e in
          let back : length tree - (length tree - off) ≡ off = omega arith in
          rw (x, back) at whole

      pub template_ends : (end : ℕ) → end ≡ length tree → read tt (drop end tree) ≡ ended (scope_within source 14 tree) → gives tt ≡ verdict (unpack source tree)
      unfolding answer
      template_ends end h e =
          let nothing : drop end tree ≡ [] = drop_of_length-le tree (omega arith) in
          let x = ended_read (scope_within source 14 tree) [] (rw nothing at e) in
          rw x.1 at whole

      pub template_left_over : (end : ℕ) → end < length tree → read tt (drop end tree) ≡ ended (scope_within source 14 tree) → fails (fault Malformed end) ≡ verdict (unpack source tree)
      unfolding answer
      template_left_over end h e =
          let more : drop end tree ≡ get_or tree end 0 ∷ drop (end + 1) tree = drop-cons tree end 0 h ∙ ap (λ n. get_or tree end 0 ∷ drop n tree) (sym (add-one end)) in
          let back : length tree - length (get_or tree end 0 ∷ drop (end + 1) tree) ≡ end = omega (arith, length-drop {A = ℕ}) in
          let x = ended_read (scope_within source 14 tree) (get_or tree end 0 ∷ drop (end + 1) tree) (rw more at e) in
          rw back at (rw x.1 at whole)

-- the cases of the check of a whole template
pub ruleset whole_cases = (source_long, source_no_text, tree_long, template_faulty, template_ends, template_left_over)
