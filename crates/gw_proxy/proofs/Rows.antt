-- The definitions at worked examples.
use Rattle.std.proofs.Common.{◌≡◌, ℕ, true, false, List, [], ◌∷◌, Some, None, refl, ◌∙◌}
use Rattle.std.specs.Fmt.{digits}
use Rattle.std.specs.Prelude.{codes}
use Rattle.httpdate.specs.declared.parts.Parts.{Parts}
use Rattle.httpdate.proofs.OnLiterals.{httpdate_on_literals}
use Rattle.httpdate.proofs.Theorems.{date_text_is}
use Rattle.gw_wire.specs.declared.values.Addr.{Addr}
use Rattle.gw_head.specs.declared.framing.Framing.TheVariants.{None as NoBody}
use Rattle.gw_head.specs.declared.request.RequestHead.{RequestHead}
use Rattle.gw_head.specs.declared.reply.ReplyHead.{ReplyHead}
use Rattle.gw_proxy.specs.declared.own.Own.TheVariants.{Moved, Plain}
use Rattle.gw_proxy.specs.Date.{IsDateAt}
use Rattle.gw_proxy.specs.OutReply.{out_reply_of, own_reply_of, phrase_of}
use Rattle.gw_proxy.specs.OutRequest.{joined, out_request_of, target_of}

one_slash : joined (codes "/api/") (codes "/x") ≡ codes "/api/x"
one_slash = refl

slash_at_the_end : joined (codes "/api") (codes "/") ≡ codes "/api/"
slash_at_the_end = refl

no_base : joined [] (codes "/x") ≡ codes "/x"
no_base = refl

abbrev nowhere : Addr
nowhere = record { local = true; ip = 127 ∷ 0 ∷ 0 ∷ 1 ∷ []; port = 80 }

abbrev hop_by_hop : RequestHead
hop_by_hop = record {
  method = codes "GET";
  host = codes "example.com";
  path = codes "/";
  query = None;
  star = false;
  old = false;
  fields = (codes "host", codes "example.com") ∷ (codes "connection", codes "X-Secret, close") ∷ (codes "x-secret", codes "1")
      ∷ (codes "te", codes "gzip, trailers") ∷ (codes "x-forwarded-for", codes "1.2.3.4") ∷ [];
  framing = NoBody;
  expect = false;
  close = true;
}

hops_stay_here :
    out_request_of hop_by_hop [] nowhere (codes "10.0.0.7")
    ≡ codes "GET / HTTP/1.1\r\nHost: example.com\r\nTe: trailers\r\nX-Forwarded-For: 1.2.3.4, 10.0.0.7\r\n\r\n"
unfolding target_of
hops_stay_here = refl

abbrev no_content : ReplyHead
no_content = record { code = 204; old = false; fields = []; close = false; length = Some 0; chunked = false }

no_length_for_204 :
    out_reply_of no_content NoBody (codes "GET") false true (codes "now")
    ≡ codes "HTTP/1.1 204 No Content\r\nConnection: close\r\nDate: now\r\n\r\n"
unfolding phrase_of digits
no_length_for_204 = refl

moved :
    own_reply_of (Moved (codes "/a")) (codes "GET") true false (codes "now")
    ≡ codes "HTTP/1.0 301 Moved Permanently\r\nContent-Length: 0\r\nDate: now\r\nLocation: /a\r\n\r\n"
unfolding phrase_of digits
moved = refl

not_to_head :
    own_reply_of (Plain 404) (codes "HEAD") false false (codes "now")
    ≡ codes "HTTP/1.1 404 Not Found\r\nContent-Length: 14\r\nDate: now\r\n\r\n"
unfolding phrase_of digits
not_to_head = refl

abbrev sunday : Parts
sunday = record { sec = 37; min = 49; hour = 8; day = 6; mon = 11; year = 1994; wday = 7 }

one_date : (text : List ℕ) → IsDateAt 784_111_777_000 text → text ≡ codes "Sun, 06 Nov 1994 08:49:37 GMT"
unfolding httpdate_on_literals
one_date text said = said.2 ∙ date_text_is said.0 sunday refl said.1
