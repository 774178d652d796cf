-- What contracts see of a source and a sink in memory.
use Rattle.std.specs.Prelude.{ℕ, ◌+◌, ◌-◌, ◌^◌, min, List, ◌++◌, length, drop}

-- the bytes that are left, how many one call may give, which calls fail, and how many calls and
-- faults there were
pub record SourceState : Type 0 where
  pub left : List ℕ
  pub piece : ℕ
  pub failing : List ℕ
  pub calls : ℕ
  pub faults : ℕ

-- the bytes written, how many bytes there is room for, and the rest as above
pub record SinkState : Type 0 where
  pub written : List ℕ
  pub room : ℕ
  pub piece : ℕ
  pub failing : List ℕ
  pub calls : ℕ
  pub faults : ℕ

-- a count after one more, which does not change at its last value
abbrev pub one_more : ℕ → ℕ
one_more count = min (count + 1) (2 ^ 64 - 1)

-- how many bytes more the sink has room for
abbrev pub spare : SinkState → ℕ
spare sink = sink.room - length sink.written

-- after a call that took n bytes
abbrev pub after_take : SourceState → ℕ → SourceState
after_take source n = record source { left = drop n source.left; calls = one_more source.calls }

-- after a call that failed
abbrev pub after_failed_take : SourceState → SourceState
after_failed_take source =
    record source { calls = one_more source.calls; faults = one_more source.faults }

-- after a call that wrote these bytes
abbrev pub after_put : SinkState → List ℕ → SinkState
after_put sink bytes = record sink { written = sink.written ++ bytes; calls = one_more sink.calls }

-- after a call that failed
abbrev pub after_failed_put : SinkState → SinkState
after_failed_put sink = record sink { calls = one_more sink.calls; faults = one_more sink.faults }
