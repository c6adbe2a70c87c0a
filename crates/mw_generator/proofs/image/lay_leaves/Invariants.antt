use Rattle.std.proofs.Common.{◌≡◌, ◌-◌, length}
use Rattle.mw_generator.specs.Generated.{with_leaves}
use Rattle.mw_generator.proofs.image.lay_leaves.Given as goal

-- what is left gives the same end
abbrev pub invariant-loop-page : goal.invariant-loop-page
invariant-loop-page l = record {
  whole : length l.image ≡ length l.fn.image;
  same : with_leaves (l.pages - l.page) l.turn l.page l.image ≡ with_leaves l.pages l.turn 0 l.fn.image;
}
