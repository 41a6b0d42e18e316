use Rattle.std.proofs.Common.{◌≡◌, sym, ◌∙◌, rules}
use Rattle.std.specs.List.{count_by}
use Rattle.example_host.specs.Vowels.{a_vowel}
use Rattle.example_host.proofs.Counting.{vowels_are}
use Rattle.example_host.proofs.vowels.count_vowels.Goals as goal

pub returns : goal.returns
returns c = let counted : c.count.result ≡ count_by a_vowel c.args.piece.now = search rules in counted ∙ sym (vowels_are c.args.piece.now)
