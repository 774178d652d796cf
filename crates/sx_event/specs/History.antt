-- The claims and notes that a history tells, the latest at the end.
use Rattle.std.specs.Prelude.{List, [], ◌∷◌, ◌++◌}
use Rattle.sx_event.specs.declared.marks.Claim.{Claim}
use Rattle.sx_event.specs.declared.marks.Note.{Note}
use Rattle.sx_event.specs.declared.history.History.{History, Empty, Claimed', Noted', Joined'}

abbrev pub claims_of : History → List Claim
claims_of Empty = []
claims_of (Claimed' marker before claim) = claims_of before ++ claim ∷ []
claims_of (Noted' marker before note) = claims_of before
claims_of (Joined' marker front marker' back) = claims_of front ++ claims_of back

abbrev pub notes_of : History → List Note
notes_of Empty = []
notes_of (Claimed' marker before claim) = notes_of before
notes_of (Noted' marker before note) = notes_of before ++ note ∷ []
notes_of (Joined' marker front marker' back) = notes_of front ++ notes_of back
