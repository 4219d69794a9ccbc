-- What the parser's answer says of a whole head.
use Rattle.std.proofs.Common.{◌≡◌, ℕ, List, [], length, sym, ap, ◌∙◌, arith, refl, ◌∷◌, ◌++◌, length-append}
use Rattle.std.specs.Prelude.{Some}
use Rattle.std.proofs.lemmas.Option.{same_Some}
use Rattle.httparse.specs.Grammar.{RequestHead as RequestParts, print_request, ReadsRequest, ResponseHead as ReplyParts, print_response, ReadsResponse}
use Rattle.gw_head.specs.Mark.{head_end}
use Rattle.gw_head.proofs.GrammarEnd.{request_end, response_end}
use Rattle.gw_head.proofs.MarkLemmas.{head_end-append}

-- a list as long as its front has nothing behind it
nothing_behind : (bytes printed rest : List ℕ) → bytes ≡ printed ++ rest → length bytes ≡ length printed → rest ≡ []
nothing_behind bytes printed [] is same = refl
nothing_behind bytes printed (b ∷ rest) is same =
    absurd (omega (arith, ap length is ∙ length-append printed (b ∷ rest)))

pub whole_request : (bytes : List ℕ) (h : RequestParts) (rest : List ℕ) → head_end bytes ≡ Some (length bytes)
    → ReadsRequest bytes h rest → ReadsRequest bytes h []
whole_request bytes h rest ended reads =
    let same : Some (length bytes) ≡ Some (length (print_request h)) = sym ended ∙ request_end bytes h rest reads in
    let none = nothing_behind bytes (print_request h) rest reads.1 (same_Some _ _ same) in
    (reads.0, reads.1 ∙ ap (λ t. print_request h ++ t) none)

pub whole_reply : (bytes : List ℕ) (h : ReplyParts) (rest : List ℕ) → head_end bytes ≡ Some (length bytes)
    → ReadsResponse bytes h rest → ReadsResponse bytes h []
whole_reply bytes h rest ended reads =
    let same : Some (length bytes) ≡ Some (length (print_response h)) = sym ended ∙ response_end bytes h rest reads in
    let none = nothing_behind bytes (print_response h) rest reads.1 (same_Some _ _ same) in
    (reads.0, reads.1 ∙ ap (λ t. print_response h ++ t) none)

-- a head and a head that goes on have the same end
pub same_end : (front more : List ℕ) → head_end front ≡ Some (length front)
    → head_end (front ++ more) ≡ Some (length (front ++ more)) → more ≡ []
same_end front more ended longer =
    let same : Some (length (front ++ more)) ≡ Some (length front) =
    sym longer ∙ head_end-append front more (length front) ended in
    nothing_behind (front ++ more) front more refl (same_Some _ _ same)
