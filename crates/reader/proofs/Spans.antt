-- Spans that are tested one after another.
use Rattle.std.proofs.Common.{◌≡◌, ℕ, ◌<◌, ◌≤◌, Bool, true, false, ◌&&◌, List, sym, refl, le-leb}
use borrow.Author.Tests.{lt-leb}
use Rattle.packing.specs.Rfc3629.{between_characters}
use Rattle.packing.specs.Limits.{inside}

pub alone : (b : Bool) → b ≡ (b && true)
alone true = refl
alone false = refl

pub first_wrong : (x a r : Bool) → x ≡ (a && r) → false ≡ a → false ≡ x
first_wrong x a r e wrong = rw (e, sym wrong)

pub second_wrong : (x a b r : Bool) → x ≡ (a && (b && r)) → true ≡ a → false ≡ b → false ≡ x
second_wrong x a b r e right wrong = rw (e, sym right, sym wrong)

pub both_right : (x a b r : Bool) → x ≡ (a && (b && r)) → true ≡ a → true ≡ b → r ≡ x
both_right x a b r e right right' = rw (e, sym right, sym right')

-- ── One span ────────────────────────────────────────────────────────────────────────────────

module _ (source : List ℕ) (start end : ℕ) where
  pub reversed : end < start → false ≡ inside source (record { start = start; end = end })
  unfolding inside
  reversed h = rw (lt-leb start end h)

  pub starts_inside : start ≤ end → false ≡ between_characters source start → false ≡ inside source (record { start = start; end = end })
  unfolding inside
  starts_inside h wrong = rw (le-leb start end h, sym wrong)

  pub ends_decide : start ≤ end → true ≡ between_characters source start → between_characters source end ≡ inside source (record { start = start; end = end })
  unfolding inside
  ends_decide h right = rw (le-leb start end h, sym right)
