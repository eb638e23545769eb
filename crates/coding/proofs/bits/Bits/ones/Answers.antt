-- `coding::bits::Bits::ones` meets its contract: the ones before the end are all.
use mathlib.Core.Path.{refl, ap, sym, ◌∙◌}
use Rattle.coding.specs.Bits.{ones_before}
use Rattle.coding.specs.Seen.{bits_in}
use Rattle.coding.proofs.Laws.Bits.{before_all, counted}
use Rattle.coding.proofs.bits.Bits.ones.Goals as goal

pub returns : goal.returns
returns c =
    let s = bits_in c.args.self.now in
    c.ones_before.ensures.0 ∙ ap (ones_before s) (sym (counted c.args.self.now.counted refl)) ∙ before_all s
