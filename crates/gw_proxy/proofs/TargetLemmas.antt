-- A target that goes out is read as its path and its query.
use Rattle.std.proofs.Common.{◌≡◌, ℕ, suc, ◌+◌, Bool, true, false, not, ◌||◌, cond, List, [], ◌∷◌, ◌++◌, take, drop, refl, ap, ◌∙◌, arith, append-nil}
use Rattle.std.specs.Prelude.{slice_index, Option, Some, None, ◌==◌, if◌then◌else◌}
use Rattle.std.specs.List.{position_or_len}
use Rattle.gw_head.specs.Pieces.{after, before, has_byte, is_byte}
use Rattle.gw_head.specs.Target.{query_of}
use Rattle.gw_head.proofs.Facts.{IsOrigin, origin}
use Rattle.gw_proxy.specs.Asked.{IsResource}
use Rattle.gw_proxy.specs.OutRequest.{query_text}

none_left : (a b : Bool) → (a || b) ≡ false → (a ≡ false) × (b ≡ false)
none_left false b e = (refl, e)
none_left true b e = absurd (cc)

before_cons : (c b : ℕ) (text : List ℕ) → (b == c) ≡ false → before c (b ∷ text) ≡ b ∷ before c text
before_cons c b text other =
    let next : 1 + position_or_len (is_byte c) text ≡ suc (position_or_len (is_byte c) text) = omega arith in
    ap (λ (v : Bool). take (cond (not v) (1 + position_or_len (is_byte c) text) 0) (b ∷ text)) other
    ∙ ap (λ m. take m (b ∷ text)) next

after_cons : (c b : ℕ) (text : List ℕ) → (b == c) ≡ false → after c (b ∷ text) ≡ after c text
after_cons c b text other =
    let next : 1 + position_or_len (is_byte c) text + 1 ≡ suc (position_or_len (is_byte c) text + 1) = omega arith in
    ap (λ (v : Bool). drop (cond (not v) (1 + position_or_len (is_byte c) text) 0 + 1) (b ∷ text)) other
    ∙ ap (λ m. drop m (b ∷ text)) next

before_run : (c : ℕ) (run text : List ℕ) → has_byte c run ≡ false → before c (run ++ text) ≡ run ++ before c text
before_run c [] text none = refl
before_run c (b ∷ run) text none =
    let parts = none_left (b == c) (has_byte c run) none in
    before_cons c b (run ++ text) parts.0 ∙ ap (λ l. b ∷ l) (before_run c run text parts.1)

after_run : (c : ℕ) (run text : List ℕ) → has_byte c run ≡ false → after c (run ++ text) ≡ after c text
after_run c [] text none = refl
after_run c (b ∷ run) text none =
    let parts = none_left (b == c) (has_byte c run) none in
    after_cons c b (run ++ text) parts.0 ∙ after_run c run text parts.1

has_run : (c : ℕ) (run text : List ℕ) → has_byte c run ≡ false → has_byte c (run ++ text) ≡ has_byte c text
has_run c [] text none = refl
has_run c (b ∷ run) text none =
    let parts = none_left (b == c) (has_byte c run) none in
    ap (λ v. v || has_byte c (run ++ text)) parts.0 ∙ has_run c run text parts.1

pub path_read : (path : List ℕ) (query : Option (List ℕ)) → has_byte 63 path ≡ false → before 63 (path ++ query_text query) ≡ path
path_read path None none = before_run 63 path [] none ∙ append-nil path
path_read path (Some query) none = before_run 63 path (63 ∷ query) none ∙ append-nil path

pub query_read : (path : List ℕ) (query : Option (List ℕ)) → has_byte 63 path ≡ false
    → query_of (path ++ query_text query) ≡ query
query_read path None none =
    ap (λ (v : Bool). if v then Some (after 63 (path ++ [])) else None) (has_run 63 path [] none)
query_read path (Some query) none =
    ap (λ (v : Bool). if v then Some (after 63 (path ++ 63 ∷ query)) else None) (has_run 63 path (63 ∷ query) none)
    ∙ ap Some (after_run 63 path (63 ∷ query) none)

rooted_front : (path rest : List ℕ) → slice_index path 0 ≡ 47 → slice_index (path ++ rest) 0 ≡ 47
rooted_front [] rest rooted = absurd (omega arith)
rooted_front (b ∷ path) rest rooted = rooted

pub origin_read : (method path : List ℕ) (query : Option (List ℕ)) → IsResource path query
    → IsOrigin method (path ++ query_text query)
origin_read method path query is =
    origin method (path ++ query_text query) is.whole (rooted_front path (query_text query) is.rooted)
