-- One pull behind the data of a piece that has begun, over plain variables.
use Rattle.std.proofs.Common.{◌≡◌, ℕ, ◌+◌, ◌≤◌, Bool, List, ◌++◌, length, ap, ◌∙◌}
use Rattle.std.proofs.lemmas.List.{length-take-le}
use Rattle.gw_body.specs.declared.place.Place.{Place}
use Rattle.gw_stream.specs.declared.drawing.Pull.{Pull}
use Rattle.gw_stream.specs.Drawing.{Pulled, count_of, data_of, pull_bill}
use Rattle.gw_stream.specs.Filling.{FillStep, passing}
use Rattle.gw_stream.specs.Outbox.{OutView, gap_of, out_view}
use Rattle.gw_stream.specs.Waits.{Side, Waited}
use Rattle.gw_stream.proofs.FrameLemmas.{filled_view}
use borrow.Rule.Slice.PartMut.{put_mid}

pub fill_step : (a b : Side) (link : ℕ) (old new : Place) (ahead left : List ℕ) (before : OutView) (buf z ys : List ℕ) (done begun gap n k : ℕ) (chunks : Bool)
    (silence : _) (r : Pull) → out_view buf done begun chunks ≡ before → gap ≡ gap_of chunks → z ≡ put_mid (done + gap + begun) k buf ys
    → done + gap + begun + k ≤ length buf → length ys ≡ k → n ≡ count_of r → count_of r ≤ length ys
    → Waited a b (pull_bill silence r) (Pulled link old ahead new left (data_of ys r) r)
    → FillStep a b link (passing old ahead before) (passing new left (out_view z done (begun + n) chunks)) silence r
fill_step a b link old new ahead left before buf z ys done begun gap n k chunks silence r seen same is within long count fits waited = record {
  given = data_of ys r;
  count = length-take-le (count_of r) ys fits;
  out = ap (λ m. out_view z done (begun + m) chunks) count ∙ filled_view buf z ys done begun gap (count_of r) k chunks same is within long fits
      ∙ ap (λ (v : OutView). record v { begun = v.begun ++ data_of ys r }) seen;
  waited = waited;
}
