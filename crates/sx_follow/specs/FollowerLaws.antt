-- Laws of followers.
use Rattle.std.specs.Prelude.{◌≡◌}
use Rattle.sx_block.specs.Chain.{AreValid, NoneIsValid, ledger_after_all}
use Rattle.sx_block.specs.ChainLaws.{IsPart, OneOfEachParent}
use Rattle.sx_follow.specs.Follower.{Followed, IsFollower}

-- two followers of the same blocks, none of which has another one of the same parent, have the same head where neither
-- can advance
abbrev pub FollowersAgree : Type 0
FollowersAgree =
    (one other : Followed) → IsFollower one → IsFollower other → one.opening ≡ other.opening
    → IsPart one.blocks other.blocks → IsPart other.blocks one.blocks → OneOfEachParent one.blocks
    → NoneIsValid one.head one.blocks → NoneIsValid other.head other.blocks → one.head ≡ other.head

-- a follower that cannot advance has the head that a replay of its blocks gives, where each is valid in turn
abbrev pub FollowersReplay : Type 0
FollowersReplay =
    (seen : Followed) → IsFollower seen → AreValid seen.opening seen.blocks → NoneIsValid seen.head seen.blocks
    → seen.head ≡ ledger_after_all seen.opening seen.blocks
