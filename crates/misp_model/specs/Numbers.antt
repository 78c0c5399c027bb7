-- A request as that of another act: what bears the number of the act that it is.
use Rattle.std.specs.Prelude.{ℕ, List, map}
use Rattle.misp_model.specs.Scene.{Scene}
use Rattle.misp_model.specs.Version.{Version}
use Rattle.misp_model.specs.Answers.{Reply, Refused, Seen, Listed, Hits, Events, Shares, Parts, Manifested, Packed, Saved, Taken, Other}

-- the same surroundings of the n-th act
abbrev pub scene_as : ℕ → Scene → Scene
scene_as n s = record s { act = n }

-- the same version by the n-th act
abbrev pub version_as : ℕ → Version → Version
version_as n v = record v { act = n }

abbrev pub versions_as : ℕ → List Version → List Version
versions_as n vs = map (version_as n) vs

-- the same reply to the n-th act: it bears the number in the versions that were saved
unfoldable pub reply_as : ℕ → Reply → Reply
reply_as n (Saved vs) = Saved (versions_as n vs)
reply_as n (Refused rule) = Refused rule
reply_as n (Seen v) = Seen v
reply_as n (Listed vs) = Listed vs
reply_as n (Hits found) = Hits found
reply_as n (Events found) = Events found
reply_as n (Shares groups) = Shares groups
reply_as n (Parts events) = Parts events
reply_as n (Packed p) = Packed p
reply_as n (Manifested events) = Manifested events
reply_as n (Taken count) = Taken count
reply_as n Other = Other
