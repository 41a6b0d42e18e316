-- The page and the limits keep to the laws of sinks, since those of their size and limit do.
use Rattle.std.proofs.Common.{◌≡◌, ℕ, List, ◌++◌, length, refl, sym, ap, subst, length-append}
use Rattle.meaning.specs.Hosts.{Sink, Lawful, Taken, took, stopped, Alike, after, AtMost}
use Rattle.meaning.specs.Sinks.{page as page_of, limited as limited_to, line_feeds}
use Rattle.meaning.proofs.SinkLaws.{page_is_lawful as page_of_is_lawful, limited_is_lawful as limited_to_is_lawful, line_feeds_join}
use Rattle.sinks.specs.Sinks.{told_as, page, on_page, limited, under_limit, Additive}

module _ {S T : Type 0} (form : S → T) where
  told_alike : (s t : Taken S) → Alike s t → Alike (told_as form s) (told_as form t)
  told_alike (took m) (took n) h = ap form h
  told_alike (took m) (stopped l) h = h
  told_alike (stopped k) (took n) h = h
  told_alike (stopped k) (stopped l) h = h

  -- a first piece and then the next, each told so
  told_after : (s t : Taken S) (next : S → Taken S) → Alike s (after t next) → (then_told : T → Taken T) →
      ((n : S) → then_told (form n) ≡ told_as form (next n)) → Alike (told_as form s) (after (told_as form t) then_told)
  told_after s (took n) next h then_told same = same_right (told_as form s) (same n) (told_alike s (next n) h)
    where
      same_right : (u : Taken T) {v w : Taken T} → v ≡ w → Alike u w → Alike u v
      same_right u e k = subst (λ x. Alike u x) (sym e) k
  told_after s (stopped l) next h then_told same = told_alike s (stopped l) h

  told_level : (high : ℕ) (t : Taken S) → AtMost high t → AtMost high (told_as form t)
  told_level high (took m) h = h
  told_level high (stopped l) h = h

pub page_is_lawful : Lawful page
page_is_lawful = record {
  empty_piece = λ m. ap (told_as (on_page m.size)) ((page_of_is_lawful m.size).empty_piece m.bytes);
  two_pieces = λ m a b.
      told_after (on_page m.size) ((page_of m.size).take m.bytes (a ++ b)) ((page_of m.size).take m.bytes a) (λ n. (page_of m.size).take n b)
      ((page_of_is_lawful m.size).two_pieces m.bytes a b) (λ n. page.take n b) (λ n. refl);
  highest_fits = (page_of_is_lawful 0).highest_fits;
  levels = λ m a. told_level (on_page m.size) 0 ((page_of m.size).take m.bytes a) ((page_of_is_lawful m.size).levels m.bytes a);
}

pub lines_are_additive : Additive line_feeds
lines_are_additive = record { none = refl; join = line_feeds_join }

pub bytes_are_additive : Additive length
bytes_are_additive = record { none = refl; join = length-append }

module _ {measure : List ℕ → ℕ} (additive : Additive measure) {beneath : Sink} (lawful : Lawful beneath) where
  to_is_lawful : (limit : ℕ) → Lawful (limited_to measure limit beneath)
  to_is_lawful limit = limited_to_is_lawful measure additive.none additive.join limit beneath lawful

  pub limited_is_lawful : Lawful (limited measure beneath)
  limited_is_lawful = record {
    empty_piece = λ m. ap (told_as (under_limit m.limit)) ((to_is_lawful m.limit).empty_piece (m.count, m.beneath));
    two_pieces = λ m a b.
        let take : ℕ × beneath.State → List ℕ → Taken (ℕ × beneath.State) = (limited_to measure m.limit beneath).take in
        told_after (under_limit m.limit) (take (m.count, m.beneath) (a ++ b)) (take (m.count, m.beneath) a) (λ n. take n b)
        ((to_is_lawful m.limit).two_pieces (m.count, m.beneath) a b) (λ n. (limited measure beneath).take n b) (λ n. refl);
    highest_fits = (to_is_lawful 0).highest_fits;
    levels = λ m a.
        told_level (under_limit m.limit) _ ((limited_to measure m.limit beneath).take (m.count, m.beneath) a) ((to_is_lawful m.limit).levels (m.count, m.beneath) a);
  }
