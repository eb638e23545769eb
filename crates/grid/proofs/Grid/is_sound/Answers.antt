-- `grid::Grid::is_sound` meets its contract: an even survey has nothing behind its heading but eleven counts, and of any other the squares tell.
use mathlib.Core.Path.{◌≡◌, refl, sym, ◌∙◌}
use native.Mathlib.Omega.{arith}
use Rattle.survey.specs.Reading.{greatest_in, least_in}
use Rattle.grid.specs.Test.{depth_in}
use Rattle.grid.proofs.Laws.Sound.{Uneven, refused_flat, refused_long, found_whole, found_even}
use Rattle.grid.proofs.Grid.is_sound.Goals as goal
use Rattle.grid.proofs.Grid.is_sound.Goals.{Else-self, then-self-eq0-via-then-self-eq0, then-self-eq0-via-else-self-eq0+then-not-is_short}

pub returns-then-self : goal.returns-then-self
returns-then-self c =
    let o = c.args.self.now.opened in
    found_even o.parted o.bytes o.greatest_is o.least_is c.if-self.true

-- greatest and least are not the same
uneven : (c : Else-self) → greatest_in c.args.self.now.file.now ≡ least_in c.args.self.now.file.now → ⊥
uneven c e =
    let o = c.args.self.now.opened in
    c.if-self.false (o.greatest_is ∙ e ∙ sym o.least_is)

-- the heading, as the laws have it
heading : (c : Else-self) → Uneven c.args.self.now.file.now (depth_in c.args.self.now.file.now) (greatest_in c.args.self.now.file.now) (least_in c.args.self.now.file.now)
heading c = record { side = refl; greatest = refl; least = refl; apart = uneven c }

depth : (c : Else-self) → c.args.self.now.depth ≡ depth_in c.args.self.now.file.now
depth c = c.args.self.now.opened.depth_is

pub returns-then-self-eq0 : goal.returns-then-self-eq0
returns-then-self-eq0 c =
    let e = (goal.at.returns-then-self-eq0 c).Else-self in
    elim c.then-self-eq0.branch [
      | then-self-eq0-via-then-self-eq0 w ↦ refused_flat (heading e) (sym (depth e) ∙ w.if-self-eq0.true)
      | then-self-eq0-via-else-self-eq0+then-not-is_short w ↦
          refused_long (heading e) (omega (arith, depth e, w.if-self-eq0.false)) refl refl refl (sym w.is_short.ensures ∙ w.if-not-is_short.true)
    ]

pub is_whole_by_counts-requires : goal.is_whole_by_counts-requires
is_whole_by_counts-requires c = record {
  deep = omega (arith, c.args.self.now.opened.depth_is, c.if-self-eq0.false);
  uneven = uneven (goal.at.is_whole_by_counts-requires c).Else-self;
}

pub returns : goal.returns
returns c =
    let o = c.args.self.now.opened in
    found_whole (heading (goal.at.returns c).Else-self) (omega (arith, o.depth_is, c.if-self-eq0.false)) o.parted o.bytes c.is_whole_by_counts.ensures
