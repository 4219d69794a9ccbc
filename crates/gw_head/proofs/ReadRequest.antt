-- What is read of a request's head can be written again.
use Rattle.std.proofs.Common.{◌≡◌, ℕ, ◌^◌, ◌<◌, Bool, true, false, ◌||◌, List, [], ◌∷◌, length, refl, sym, subst}
use Rattle.std.specs.Prelude.{None}
use Rattle.std.specs.Str.Parse.{digits_value}
use Rattle.gw_head.specs.declared.error.HeadError.{HeadError}
use Rattle.gw_head.specs.declared.error.HeadError.TheVariants.{Malformed, HostCount, BadLength, LengthAndCoding, Coding, BadEscape, Connect, Expectation}
use Rattle.gw_head.specs.declared.framing.Framing.TheVariants.{Length}
use Rattle.gw_head.specs.declared.request.RequestHead.{RequestHead}
use Rattle.gw_head.specs.declared.target.Form.{Form}
use Rattle.gw_head.specs.declared.target.Form.TheVariants.{Origin, Absolute, Asterisk, Other}
use Rattle.gw_head.specs.Checks.{first_fault, request_fault, codings_of, lengths_of, hosts_of, first_value, is_wrong_count, are_bad_lengths, is_bad_host, is_connect, has_bad_target, has_bad_coding, has_length_and_coding, has_bad_length, has_bad_host, has_bad_path, has_bad_expectation}
use Rattle.gw_head.specs.Fields.{fields_of}
use Rattle.gw_head.specs.Head.{framing_of, host_in, RequestHeadOf}
use Rattle.gw_head.specs.Target.{form_of, authority_in}
use Rattle.gw_head.specs.Written.{IsWritableRequest}
use Rattle.gw_head.proofs.CopyLemmas.{copyable_request, same_token}
use Rattle.gw_head.proofs.ReadPlain.{fields_plain, small_by}

passed_by : (v : Bool) (error : HeadError) (checks : List (Bool × HeadError)) → first_fault ((v, error) ∷ checks) ≡ None
    → (v ≡ false) × (first_fault checks ≡ None)
passed_by false error checks passes = (refl, passes)
passed_by true error checks passes = absurd (cc)

-- the checks that a good head has passed
record HasPassed (method target : List ℕ) (fields : List (List ℕ × List ℕ)) : Type 0 where
  tunnel : is_connect method ≡ false
  lengths : are_bad_lengths (lengths_of fields) ≡ false
  host : is_bad_host (first_value (hosts_of fields)) ≡ false
  authority : is_bad_host (authority_in (form_of method target) target) ≡ false

two_false : (a b c : Bool) → (a || (b || c)) ≡ false → (b ≡ false) × (c ≡ false)
two_false false false false e = (refl, refl)
two_false false false true e = absurd (cc)
two_false false true c e = absurd (cc)
two_false true b c e = absurd (cc)

has_passed : (method target : List ℕ) (minor : ℕ) (fields : List (List ℕ × List ℕ)) → request_fault method target minor fields ≡ None
    → HasPassed method target fields
unfolding has_bad_length has_bad_host
has_passed method target minor fields passes =
    let last = (has_bad_path method target, BadEscape) ∷ (has_bad_expectation fields, Expectation) ∷ [] in
    let hosts = (has_bad_host method target minor fields, HostCount) ∷ last in
    let lengths = (has_bad_length fields, BadLength) ∷ hosts in
    let both = (has_length_and_coding fields, LengthAndCoding) ∷ lengths in
    let codings = (has_bad_coding minor fields, Coding) ∷ both in
    let targets = (has_bad_target method target, Malformed) ∷ codings in
    let first = passed_by (is_connect method) Connect targets passes in
    let second = passed_by (has_bad_target method target) Malformed codings first.1 in
    let third = passed_by (has_bad_coding minor fields) Coding both second.1 in
    let fourth = passed_by (has_length_and_coding fields) LengthAndCoding lengths third.1 in
    let fifth = passed_by (has_bad_length fields) BadLength hosts fourth.1 in
    let sixth = passed_by (has_bad_host method target minor fields) HostCount last fifth.1 in
    let good = two_false (is_wrong_count minor (length (hosts_of fields))) (is_bad_host (first_value (hosts_of fields)))
    (is_bad_host (authority_in (form_of method target) target)) sixth.0 in
    record { tunnel = first.0; lengths = fifth.0; host = good.0; authority = good.1 }

host_good : (form : Form) (target : List ℕ) (hosts : List (List ℕ)) → is_bad_host (first_value hosts) ≡ false
    → is_bad_host (authority_in form target) ≡ false → is_bad_host (host_in form target hosts) ≡ false
host_good Origin target hosts first authority = first
host_good Absolute target hosts first authority = authority
host_good Asterisk target hosts first authority = first
host_good Other target hosts first authority = first

framing_small : (codings lengths : List (List ℕ)) (n : ℕ) → are_bad_lengths lengths ≡ false → framing_of codings lengths ≡ Length n
    → n < 2 ^ 63
framing_small [] [] n good is = absurd (cc)
framing_small [] (value ∷ values) n good is =
    let same : digits_value 10 value ≡ n = cc in
    subst (λ v. v < 2 ^ 63) same (small_by value values good)
framing_small (coding ∷ codings) lengths n good is = absurd (cc)

pub writable_request : (bytes : List ℕ) (head : RequestHead) → RequestHeadOf bytes head → IsWritableRequest head
writable_request bytes head reads =
    let parts = reads.parts in
    let fields = fields_of parts.fields in
    let passed = has_passed parts.method parts.target parts.minor fields reads.passes in
    subst IsWritableRequest (sym reads.is) (record {
      verb = same_token parts.method reads.reads.0.method;
      tunnel = passed.tunnel;
      plain = fields_plain parts.fields (copyable_request bytes parts reads.whole.short reads.reads);
      named = host_good (form_of parts.method parts.target) parts.target (hosts_of fields) passed.host passed.authority;
      small = λ n is. framing_small (codings_of fields) (lengths_of fields) n passed.lengths is;
    })
