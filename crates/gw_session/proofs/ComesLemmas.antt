-- What came of a link, behind what was drawn of it before.
use Rattle.std.proofs.Common.{ℕ, ◌≡◌, List, [], ◌∷◌, ◌++◌, refl, sym, subst, append_assoc, inr}
use Rattle.gw_wire.specs.declared.values.Act.{Act}
use Rattle.gw_wire.specs.Shuffle.{Shuffle}
use Rattle.gw_wire.specs.Stretch.{Acts, Then}
use Rattle.gw_body.specs.declared.place.Place.{Place}
use Rattle.gw_stream.specs.Drawing.{Draws}
use Rattle.gw_stream.specs.Relaying.{Came, Comes}
use Rattle.gw_stream.proofs.Facts.{draws_then}

behind_draws : (k : ℕ) (old mid new : Place) (ahead between left d e : List ℕ) (ending x y : List Act) → Draws k old ahead d mid between x
    → Then (Draws k mid between e new left) (Acts ending) y → Then (Draws k old ahead (d ++ e) new left) (Acts ending) (x ++ y)
behind_draws k old mid new ahead between left d e ending x y p t = (
  x ++ t.0,
  t.1,
  subst (λ (l : List Act). x ++ y ≡ l) (sym (append_assoc x t.0 t.1)) (subst (λ (l : List Act). x ++ y ≡ x ++ l) t.2 refl),
  draws_then k old mid new ahead between left d e x t.0 p t.3,
  t.4,
)

pub comes_then : (k : ℕ) (old mid new : Place) (ahead between left d e : List ℕ) (came : Came) (x y : List Act) → Draws k old ahead d mid between x
    → Comes k mid between e new left came y → Comes k old ahead (d ++ e) new left came (x ++ y)
comes_then k old mid new ahead between left d e Came.Inside x y p q = draws_then k old mid new ahead between left d e x y p q
comes_then k old mid new ahead between left d e Came.Done x y p q = record {
  at = q.at;
  ending = q.ending;
  ends = q.ends;
  draws = behind_draws k old mid q.at ahead between left d e q.ending x y p q.draws;
}
comes_then k old mid new ahead between left d e (Came.Bad error) x y p q = record {
  at = q.at;
  front = q.front;
  left = q.left;
  draws = draws_then k old mid q.at ahead between (q.front ++ q.left) d e x y p q.draws;
  fails = q.fails;
  behind = q.behind;
}
comes_then k old mid new ahead between left d e (Came.Lost why) x y p q = record {
  at = q.at;
  inside = q.inside;
  short = q.short;
  draws = behind_draws k old mid q.at ahead between [] d e _ x y p q.draws;
  behind = q.behind;
}

pub shuffle_before : (x one other acts : List Act) → Shuffle one other acts → Shuffle one (x ++ other) (x ++ acts)
shuffle_before [] one other acts s = s
shuffle_before (act ∷ x) one other acts s = inr (x ++ other, refl, shuffle_before x one other acts s)
