-- The bytes ahead, over plain variables.
use Rattle.std.proofs.Common.{◌≡◌, ◌≤◌, ◌+◌, ◌-◌, ℕ, List, length, take, drop, sym, ap, ◌∙◌, arith, length-drop, drop-drop}
use Rattle.std.proofs.lemmas.List.{drop-take, length-take-le}
use Rattle.gw_stream.specs.Inbox.{ahead_of, HasPlaces}

-- some of them are used
pub skipped : (buffer : List ℕ) (start to count : ℕ) → HasPlaces buffer start to → count ≤ length (ahead_of buffer start to)
    → ahead_of buffer (start + count) to ≡ drop count (ahead_of buffer start to)
skipped buffer start to count h le =
    let rest : length (drop start buffer) ≡ length buffer - start = length-drop start buffer in
    let fits : to - start ≤ length (drop start buffer) = rw rest (let w = h.within in omega arith) in
    let all : length (ahead_of buffer start to) ≡ to - start = length-take-le (to - start) (drop start buffer) fits in
    let few : count ≤ to - start = rw (← all) le in
    let m : count + (to - (start + count)) ≡ to - start = let o = h.ordered in omega arith in
    ap (λ l. take (to - (start + count)) l) (sym (drop-drop count start buffer))
    ∙ sym (drop-take count (to - (start + count)) (drop start buffer))
    ∙ ap (λ n. drop count (take n (drop start buffer))) m
