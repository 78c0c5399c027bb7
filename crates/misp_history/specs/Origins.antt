-- What versions and rows keep of where they come from.
use Rattle.std.specs.Prelude.{◌≡◌, List, [], ◌∷◌}
use Rattle.std.specs.List.{Contains}
use Rattle.misp_ids.specs.declared.label.Way.{Way}
use Rattle.misp_levels.specs.Levels.{down, lowering}
use Rattle.misp_model.specs.Prelude.{Row, Version}
use Rattle.misp_history.specs.History.{without_local_tags}

-- the row is the version's: of its owner, key and stamp, with the label of its origin, one step
-- down for each of its hops that is not internal, and with the content of its origin, after any
-- hop without the tags that are not exportable
pub record StandsFor (v : Version) (row : Row) : Type 0 where
  pub owner : row.owner ≡ v.owner
  pub key : row.key ≡ v.key
  pub stamp : row.stamp ≡ v.stamp
  pub label : row.label ≡ down v.label (lowering v.path)
  pub at_origin : v.path ≡ [] → row.content ≡ v.content
  pub after_hops :
      (way : Way) (ways : List Way) → v.path ≡ way ∷ ways →
      row.content ≡ without_local_tags v.content

-- the version comes from this one, which was written or handed in where it is
pub record ComesFrom (v origin : Version) : Type 0 where
  pub path : origin.path ≡ []
  pub key : v.key ≡ origin.key
  pub stamp : v.stamp ≡ origin.stamp
  pub label : v.label ≡ origin.label
  pub content : v.content ≡ origin.content

-- each of these versions comes from one of them
abbrev pub HaveOrigins : List Version → Type 0
HaveOrigins log =
    (v : Version) → Contains log v →
    (origin : Version) × (Contains log origin × ComesFrom v origin)
