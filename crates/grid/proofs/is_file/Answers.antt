-- `grid::is_file` meets its contract: the stored form of a survey has a heading and sections, and can be opened.
use Rattle.grid.proofs.Laws.Sound.{refused, file_parted}
use Rattle.grid.proofs.is_file.Goals as goal

pub returns-in-None : goal.returns-in-None
returns-in-None c = refused c.args.f.now (λ e. c.in-None.ensures (file_parted c.args.f.now e))
