-- A relay behind the beginning of its body, over plain variables.
use Rattle.std.proofs.Common.{ℕ, ◌≡◌, ◌≤◌, List, [], ◌∷◌, ◌++◌, length, refl, ap, sym, subst, ◌∙◌, arith, append_assoc, inr}
use Rattle.gw_wire.specs.declared.values.Act.{Act}
use Rattle.gw_wire.specs.Shuffle.{Shuffle}
use Rattle.gw_wire.specs.Stretch.{Then}
use Rattle.gw_wire.proofs.Facts.{shuffle_turned}
use Rattle.gw_account.specs.Work.{Bill, both}
use Rattle.gw_account.proofs.Facts.{free_both, one_alone, shuffle_one}
use Rattle.gw_stream.specs.Drawing.{Draws}
use Rattle.gw_stream.specs.Outbox.{OutView, end_of, rest_of}
use Rattle.gw_stream.specs.Relaying.{Came, Comes, Interleaved, TextFor, came_bill, text_of}
use Rattle.gw_stream.specs.ReplyLaws.{RelayFollows, WholeFollows}
use Rattle.gw_stream.specs.Waits.{Says, Waited, sent_bill}
use Rattle.gw_stream.proofs.ComesLemmas.{comes_then}
use Rattle.gw_stream.proofs.LinkLemmas.{waited_map, waited_then}
use Rattle.gw_stream.proofs.TextLemmas.{last_text}

shuffle_before : (x one other acts : List Act) → Shuffle one other acts → Shuffle one (x ++ other) (x ++ acts)
shuffle_before [] one other acts s = s
shuffle_before (act ∷ x) one other acts s = inr (x ++ other, refl, shuffle_before x one other acts s)

drawn_before : (P Q R S : List Act → Type 0) → ((x y : List Act) → Q x → R y → S (x ++ y)) → (l : List Act) → Then Q (Interleaved P R) l → Interleaved P S l
drawn_before P Q R S f l t =
    let i = t.4 in
    (i.0, t.0 ++ i.1, subst (λ (m : List Act). Shuffle i.0 (t.0 ++ i.1) m) (sym t.2) (shuffle_before t.0 i.0 i.1 t.1 i.2), i.3, f t.0 i.1 t.3 i.4)

said_behind_all : (P Q : List Act → Type 0) (l : List Act) → Then Q P l → Interleaved P Q l
said_behind_all P Q l t =
    (t.1, t.0, subst (λ (m : List Act). Shuffle t.1 t.0 m) (sym t.2) (shuffle_one [] t.0 t.0 t.1 (shuffle_turned t.0 [] t.0 (one_alone t.0))), t.4, t.3)

pub relay_follows : RelayFollows
relay_follows a b c source target silences before mid head after result f r =
    let C = Comes source mid.place mid.ahead r.given after.body after.inbox r.came in
    let D = Comes source before.place before.ahead (f.given ++ r.given) after.body after.inbox r.came in
    let S = Says target r.text r.said in
    let cost = both (came_bill silences.source r.came) (sent_bill silences.target r.said) in
    let more = waited_map (waited_then f.waited r.waited) (drawn_before S (Draws source before.place before.ahead f.given mid.place mid.ahead) C D
    (λ x y d k. comes_then source before.place mid.place after.body before.ahead mid.ahead after.inbox f.given r.given r.came x y d k)) in
    let text : TextFor (before.out.text ++ head) before.out.in_chunks ((before.out.begun ++ f.given) ++ r.given) r.came r.text =
    subst (λ (o : OutView). TextFor (o.text ++ head) o.in_chunks (o.begun ++ r.given) r.came r.text) f.out r.text_is
    in
    record {
      given = f.given ++ r.given;
      came = r.came;
      text = r.text;
      said = r.said;
      text_is = subst (λ (l : List ℕ). TextFor (before.out.text ++ head) before.out.in_chunks l r.came r.text) (append_assoc before.out.begun f.given r.given) text;
      result_is = r.result_is;
      waited = subst (λ (u : Bill). Waited a c u (Interleaved S D)) (free_both cost) more;
    }

pub whole_follows : WholeFollows
whole_follows a b c source target from to silences before mid head result same f w =
    let d = before.out.begun ++ f.given in
    let chunks = before.out.in_chunks in
    let text = (before.out.text ++ head) ++ text_of chunks d in
    let begun_is : mid.out.begun ≡ d = ap (λ (o : OutView). o.begun) f.out in
    let less = f.begun in
    let most : length d ≤ 8192 = let l = ap length begun_is in omega arith in
    let is : (mid.out.text ++ head) ++ rest_of mid.out.in_chunks mid.out.begun ++ end_of mid.out.in_chunks ≡ text =
    ap (λ (o : OutView). (o.text ++ head) ++ rest_of o.in_chunks o.begun ++ end_of o.in_chunks) f.out
    ∙ append_assoc (before.out.text ++ head) (rest_of chunks d) (end_of chunks) ∙ ap (λ l. (before.out.text ++ head) ++ l) (sym (last_text chunks d most))
    in
    let C = Comes source before.place before.ahead f.given mid.place mid.ahead Came.Done in
    let S = Says target text w.said in
    let U = waited_then f.waited w.sends.waited in
    let more = waited_map U (λ l t. said_behind_all S C l (
      t.0,
      t.1,
      t.2,
      t.3,
      subst (λ (n : ℕ). Says n text w.said t.1) same (subst (λ (b : List ℕ). Says from.number b w.said t.1) is t.4),
    )) in
    record {
      given = f.given;
      came = Came.Done;
      text = text;
      said = w.said;
      text_is = refl;
      result_is = w.result_is;
      waited = more;
    }
