-- What a seat knows is a view of the core and the purse words at the opening.
use Rattle.std.specs.Prelude.{ℕ, List}
use Rattle.sx_event.specs.View.{View}
use Rattle.sx_shard.specs.declared.known.Known.{Known}

-- the view of the core
abbrev pub view_in : Known → View
view_in known = record {
  live = known.live;
  from = known.from;
  end = known.end;
  claims = known.claims;
  notes = known.notes;
}

-- the same view, with this copy
abbrev pub known_of : View → List ℕ → Known
known_of view opening = record {
  live = view.live;
  from = view.from;
  end = view.end;
  claims = view.claims;
  notes = view.notes;
  opening = opening;
}
