-- A target in origin form: what the definitions of the other forms come to.
use Rattle.std.proofs.Common.{◌≡◌, ℕ, Bool, true, false, List, [], refl, ap}
use Rattle.std.specs.Prelude.{slice_index, ◌==◌, if◌then◌else◌}
use Rattle.gw_head.specs.declared.target.Form.{Form}
use Rattle.gw_head.specs.declared.target.Form.TheVariants.{Origin, Absolute, Asterisk, Other}
use Rattle.gw_head.specs.Checks.{first_value, is_no_form, has_bad_path, has_bad_target}
use Rattle.gw_head.specs.Head.{host_in, is_star}
use Rattle.gw_head.specs.Pieces.{before, has_byte}
use Rattle.gw_head.specs.Target.{authority_in, form_of, has_bad_escape, is_absolute, is_asterisk, is_origin, path_in, query_of, resource_in}

pub record IsOrigin (method target : List ℕ) : Type 0 where
  pub good : has_bad_target method target ≡ false
  pub escapes : has_bad_path method target ≡ has_bad_escape (before 63 target)
  pub authority : authority_in (form_of method target) target ≡ []
  pub host : (hosts : List (List ℕ)) → host_in (form_of method target) target hosts ≡ first_value hosts
  pub path : path_in (form_of method target) target ≡ before 63 target
  pub query : query_of (resource_in (form_of method target) target) ≡ query_of target
  pub star : is_star (form_of method target) ≡ false

formed : (v w : Bool) (rest : Form) → v ≡ false → w ≡ true → (if v then Other else (if w then Origin else rest)) ≡ Origin
formed false true rest e f = refl
formed false false rest e f = absurd (cc)
formed true w rest e f = absurd (cc)

form_is : (method target : List ℕ) → has_byte 35 target ≡ false → slice_index target 0 ≡ 47 → form_of method target ≡ Origin
unfolding form_of
form_is method target whole rooted =
    formed (has_byte 35 target) (is_origin target)
    (if is_absolute target then Absolute else (if is_asterisk method target then Asterisk else Other)) whole
    (ap (λ b. b == 47) rooted)

pub origin : (method target : List ℕ) → has_byte 35 target ≡ false → slice_index target 0 ≡ 47 → IsOrigin method target
unfolding has_bad_target has_bad_path
origin method target whole rooted =
    let form = form_is method target whole rooted in
    record {
      good = ap is_no_form form;
      escapes = ap (λ f. has_bad_escape (path_in f target)) form;
      authority = ap (λ f. authority_in f target) form;
      host = λ hosts. ap (λ f. host_in f target hosts) form;
      path = ap (λ f. path_in f target) form;
      query = ap (λ f. query_of (resource_in f target)) form;
      star = ap is_star form;
    }
