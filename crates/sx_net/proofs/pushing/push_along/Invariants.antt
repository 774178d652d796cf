use Rattle.std.proofs.Common.{◌≡◌, ℕ, length, take}
use Rattle.sx_net.specs.Leaving.{AreListed}
use Rattle.sx_net.specs.Network.{Pushes, MovesRoom}
use Rattle.sx_net.specs.Paths.{Leads}
use Rattle.sx_net.proofs.pushing.push_along.Given as goal

abbrev pub invariant-loop-arc : goal.invariant-loop-arc
invariant-loop-arc l = let path = take l.arc-index l.path in record {
  pushed : Pushes l.initial.arcs l.arcs path l.amount;
  moved : (tail head : ℕ) → Leads l.initial.arcs tail path head → MovesRoom l.initial.arcs l.arcs tail head l.amount;
  listed : AreListed l.leaving.lists l.links l.arcs (length l.arcs);
  links : length l.links ≡ length l.initial.links;
  lists : length l.leaving.lists ≡ length l.initial.leaving.lists;
  spare : l.leaving.spare ≡ l.initial.leaving.spare;
}
