-- The table after a template was written to the place of one of its entries.
use Rattle.std.proofs.Common.{◌≡◌, ℕ, suc, ◌+◌, ◌-◌, ◌*◌, ◌<◌, ◌≤◌, max, true, List, ◌∷◌, ◌++◌, length, get_or, take, drop, set, vec_items, nat_cmp, sym, ap, ◌∙◌, ap₂, inl, inr, arith}
use Rattle.std.proofs.lemmas.Bool.{and_from}
use Rattle.std.proofs.lemmas.List.{take-take, length-take}
use Rattle.std.proofs.lemmas.Slice.{between_is}
use Rattle.std.specs.Ordering.{ord_max}
use Rattle.meaning.specs.Names.{name_of}
use Rattle.meaning.specs.Value.{Text}
use Rattle.meaning.specs.declared.name.Name.{Name}
use Rattle.packing.specs.Unpacking.{unpack}
use Rattle.program.specs.Program as program
use Rattle.checker.specs.Whole.{unpacks}
use Rattle.checker.proofs.WholeThere.{whole_there}
use Rattle.compiler.specs.declared.instr.Instr.{Instr}
use Rattle.compiler.proofs.Means.{mean_length}
use Rattle.model.specs.Model.{put}
use Rattle.templates.specs.Entries.{source_of, tree_of, records_of, scope_of, template_from, template_of, held, sound, all_sound, times, Apart, Goes}
use Rattle.templates.specs.Held.{entries_of, templates_of}
use Rattle.templates.specs.Writing.{written, Programmed, Elsewhere, Placed}
use Rattle.templates.specs.declared.entry.Entry.{Entry}
use Rattle.templates.specs.declared.table.Templates.{Templates}
use Rattle.templates.proofs.Written.{length_written, read_before, read_there}
use Rattle.templates.proofs.Kept.{bytes_elsewhere, instrs_elsewhere, source_there, tree_there, records_there, held_kept, sound_kept, sound_join, sound_take, sound_drop}
use Rattle.templates.proofs.Indexed.{unpacked}
use Rattle.templates.proofs.Meanings.{means_from}
use Rattle.templates.proofs.Names.{held_append, put_goes}
use Rattle.templates.proofs.Spots.{Alone, alone, apart_set, times_take, take_placed}

-- what unpacks is short enough for its place
pub record Short (source tree : List ℕ) : Type 0 where
  pub source_short : length source ≤ 8192
  pub tree_short : length tree ≤ 8192

pub short : (source tree : List ℕ) → unpacks source tree ≡ true → Short source tree
short source tree ok =
    let there = whole_there source tree (scope_of (unpack source tree)) (unpacked source tree ok) in
    record { source_short = there.source_short; tree_short = there.tree_short }

-- what is written of a template, piece by piece
pub record Pieces (source tree : List ℕ) (new : Entry) (bytes after : List ℕ) (instrs records : List Instr) : Type 0 where
  pub front : List ℕ
  pub source_is : front ≡ written bytes (new.place * 16384) source
  pub tree_is : after ≡ written front (new.place * 16384 + 8192) tree
  pub source_len : new.source_len ≡ length source
  pub tree_len : new.tree_len ≡ length tree
  pub ok : unpacks source tree ≡ true
  pub programmed : Programmed tree (program.compile (scope_of (unpack source tree))) (new.place * 1024) new.len instrs records
  pub room : 262144 ≤ length bytes
  pub space : 16384 ≤ length instrs

module _ (source tree : List ℕ) (new : Entry) (bytes after : List ℕ) (instrs records : List Instr) (p : Pieces source tree new bytes after instrs records) where
  abbrev start : ℕ
  start = new.place * 16384

  abbrev pieces : List Instr
  pieces = p.programmed.records

  size : length pieces ≡ new.len
  size = mean_length tree pieces _ p.programmed.mean ∙ sym p.programmed.counts

  source_fits : length source ≤ 8192
  source_fits = omega (arith, p.source_len)

  tree_fits : length tree ≤ 8192
  tree_fits = omega (arith, p.tree_len)

  front_length : length p.front ≡ length bytes
  front_length = ap length p.source_is ∙ length_written bytes start source (omega (arith, source_fits, p.room))

  -- the entry points to what was written
  source_stands : source_of after new ≡ source
  source_stands =
      source_there after new ∙ ap (λ (m : List ℕ). take new.source_len (drop start m)) p.tree_is
      ∙ read_before p.front tree (start + 8192) start new.source_len (omega (arith, front_length, p.room)) (omega arith)
      ∙ ap₂ (λ (n : ℕ) (m : List ℕ). take n (drop start m)) p.source_len p.source_is
      ∙ read_there bytes source start (omega (arith, p.room))

  tree_stands : tree_of after new ≡ tree
  tree_stands =
      tree_there after new ∙ ap₂ (λ (n : ℕ) (m : List ℕ). take n (drop (start + 8192) m)) p.tree_len p.tree_is
      ∙ read_there p.front tree (start + 8192) (omega (arith, front_length, p.room))

  records_stand : records_of records new ≡ pieces
  records_stand =
      records_there records new ∙ ap₂ (λ (n : ℕ) (m : List Instr). take n (drop (new.place * 1024) m)) (sym size) p.programmed.is
      ∙ read_there instrs pieces (new.place * 1024) (omega (arith, p.space))

  sound_stands : sound (source_of after new) (tree_of after new) (records_of records new) ≡ true
  unfolding sound
  sound_stands =
      (λ i. sound (source_stands i) (tree_stands i) (records_stand i))
      ∙ and_from _ _ p.ok (means_from tree pieces _ p.programmed.mean)

  others_stay : Elsewhere new.place bytes after instrs records
  others_stay = record {
    bytes_same = λ q other.
        ap (λ (m : List ℕ). take 16384 (drop (q * 16384) m)) p.tree_is
        ∙ bytes_elsewhere p.front tree new.place (start + 8192) (omega arith) (omega (arith, tree_fits)) (omega (arith, front_length, p.room)) q other
        ∙ ap (λ (m : List ℕ). take 16384 (drop (q * 16384) m)) p.source_is
        ∙ bytes_elsewhere bytes source new.place start (omega arith) (omega (arith, source_fits)) (omega (arith, p.room)) q other;
    instrs_same = λ q other.
        ap (λ (m : List Instr). take 1024 (drop (q * 1024) m)) p.programmed.is
        ∙ instrs_elsewhere instrs pieces new.place (omega (arith, size)) (omega (arith, p.space)) q other;
  }

  pub pieces_placed : Placed source tree new bytes after instrs records
  pieces_placed = record { source_is = source_stands; tree_is = tree_stands; is_sound = sound_stands; elsewhere = others_stay }

-- THE TABLE

abbrev goes_within : {name : Text} {es : List Entry} {at : ℕ} → Goes name es at → at ≤ length es
goes_within (inl f) = omega (arith, f.within)
goes_within (inr (last, none_of)) = omega arith

-- an entry is put at an index, where one lies at the same place
pub record Putting (t : Templates) (source tree : List ℕ) (name : Name) (new : Entry) (after : List ℕ) (records : List Instr) (at m : ℕ) : Type 0 where
  pub within : at < 16
  pub goes : Goes (name_of name) (entries_of t) at
  pub old : Entry
  pub is : old ≡ get_or t.entries at old
  pub named : new.name ≡ name
  pub there : new.place ≡ (get_or t.entries at old).place
  pub placed : Placed source tree new (vec_items t.bytes) after (vec_items t.instrs) records
  pub most : m ≡ ord_max nat_cmp t.count (at + 1)

module _ (t : Templates) (source tree : List ℕ) (name : Name) (new : Entry) (after : List ℕ) (records : List Instr) (at m : ℕ) (p : Putting t source tree name new after records at m) where
  abbrev bytes : List ℕ
  bytes = vec_items t.bytes

  abbrev instrs : List Instr
  instrs = vec_items t.instrs

  abbrev used : List Entry
  used = entries_of t

  abbrev before : List Entry
  before = take at used

  abbrev behind : List Entry
  behind = drop (suc at) used

  within : at < length t.entries
  within = omega (arith, p.within)

  le : at ≤ t.count
  le = omega (arith, goes_within p.goes, length-take t.count t.entries)

  same : new.place ≡ p.old.place
  same = p.there ∙ ap (λ (e : Entry). e.place) (sym p.is)

  lonely : Alone t.entries at p.old within p.is
  lonely = alone t.entries at p.old within p.is t.apart

  none_before : times new.place before ≡ 0
  none_before = ap₂ times same (take-take at t.count t.entries le) ∙ lonely.before

  none_behind : times new.place behind ≡ 0
  none_behind =
      let cut : behind ≡ take (t.count - suc at) (drop (suc at) t.entries) = sym (between_is t.entries (suc at) t.count) in
      let few = times_take p.old.place (t.count - suc at) (drop (suc at) t.entries) in
      let none_there = lonely.behind in
      ap₂ times same cut ∙ omega arith

  most : m ≡ max t.count (at + 1)
  most = let is = p.most in grind arith

  now_used : take m (set t.entries at new) ≡ before ++ (new ∷ behind)
  now_used = take_placed t.entries at t.count m new within le most

  elsewhere : Elsewhere new.place bytes after instrs records
  elsewhere = p.placed.elsewhere

  template_stands : template_of after new ≡ template_from source tree
  template_stands = ap₂ template_from p.placed.source_is p.placed.tree_is

  pub put_apart : Apart (set t.entries at new)
  put_apart = apart_set t.entries at p.old within p.is new same t.apart

  pub put_sound : all_sound after records (take m (set t.entries at new)) ≡ true
  put_sound =
      ap (all_sound after records) now_used
      ∙ sound_join after records before (new ∷ behind)
      (sound_kept new.place bytes after instrs records elsewhere before none_before ∙ sound_take bytes instrs at used t.sound)
      (and_from _ _ p.placed.is_sound (sound_kept new.place bytes after instrs records elsewhere behind none_behind ∙ sound_drop bytes instrs (suc at) used t.sound))

  pub put_holds : held after (take m (set t.entries at new)) ≡ put (name_of name) (template_from source tree) (templates_of t)
  put_holds =
      ap (held after) now_used ∙ held_append after before (new ∷ behind)
      ∙ (λ i. held_kept new.place bytes after instrs records elsewhere before none_before i ++ ((name_of (p.named i), template_stands i) ∷ held_kept new.place bytes after instrs records elsewhere behind none_behind i))
      ∙ sym (put_goes bytes (name_of name) used at (template_from source tree) p.goes)
