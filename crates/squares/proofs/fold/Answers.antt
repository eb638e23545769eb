-- `squares::fold` meets its contract: the greatest and the least that it takes are those of the pair above.
use Rattle.squares.specs.Pair.{above_of}
use Rattle.squares.proofs.fold.Goals as goal

pub returns : goal.returns
unfolding above_of
returns c = cc
