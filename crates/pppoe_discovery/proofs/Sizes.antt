-- What is read of a frame's tags is no longer than the frame, and what is written fits into a frame.
use Rattle.std.proofs.Common.{rules, ◌≡◌, ℕ, ◌+◌, ◌≤◌, Bool, true, false, cond, eqb, List, [], ◌∷◌, ◌++◌, length, Option, Some, None, ap, ◌∙◌, arith}
use Rattle.std.specs.Prelude.{IfSome, IfOk, find, Result, Ok, Err}
use Rattle.std.specs.Option.{option_map}
use Rattle.std.proofs.lemmas.Grind.{flat_map-append}
use Rattle.std.proofs.lemmas.List.{length-append}
use Rattle.std.proofs.lemmas.List.Concat.{flat_map-cons}
use Rattle.wire_base.specs.declared.bytes.NoMemory.{NoMemory}
use Rattle.wire_base.specs.declared.cause.Cause.{Cause}
use Rattle.wire_base.specs.Words.{cause_word}
use Rattle.wire_base.specs.Numbers.{u16_bytes}
use Rattle.wire_base.specs.NumberLaws.{length-u16_bytes}
use Rattle.pppoe_wire.specs.declared.frame.Pppoe.{Pppoe}
use Rattle.pppoe_wire.specs.declared.frame.Tag.{Tag}
use Rattle.pppoe_wire.specs.Spelling.{Head, head_bytes, head_of, tag_bytes, spelling_of, spelling}
use Rattle.pppoe_wire.specs.Grammar.{HasFrame, HasTags}
use Rattle.pppoe_discovery.specs.Asking.{is_of, value_of, is_served, served, names_in, service_of, asked_by, IsShort, AreShort}
use Rattle.pppoe_discovery.specs.declared.outcome.Discovered.{Discovered}
use Rattle.pppoe_discovery.specs.declared.outcome.Discovered.TheVariants.{Ignored, Reply, Admit, Left, Carried}
use Rattle.pppoe_discovery.specs.Told.{IsPayloadOf, IsWithin}
use Rattle.pppoe_discovery.specs.Replies.{tag, echo, echoes, error_kind, pado_tags, pads_tags, refusal_tags}

-- ---- one tag

pub length-tag_bytes : (kind : ℕ) (value : List ℕ) → length (tag_bytes kind value) ≡ 4 + length value
unfolding u16_bytes
length-tag_bytes kind value =
    let a : length (tag_bytes kind value) ≡ length (u16_bytes kind) + length (u16_bytes (length value) ++ value) = length-append (u16_bytes kind) (u16_bytes (length value) ++ value) in
    let b = length-append (u16_bytes (length value)) value in
    let c = length-u16_bytes kind in
    let d = length-u16_bytes (length value) in
    omega arith

pub length-longer : (t : Tag) (tags : List Tag) → length (spelling (t ∷ tags)) ≡ 4 + length t.value + length (spelling tags)
length-longer t tags =
    let a : length (spelling (t ∷ tags)) ≡ length (spelling_of t ++ spelling tags) = ap length (flat_map-cons spelling_of t tags) in
    let b = length-append (spelling_of t) (spelling tags) in
    let c : length (spelling_of t) ≡ 4 + length t.value = length-tag_bytes t.kind t.value in
    omega arith

-- ---- what is read

abbrev AtMost : ℕ → Option (List ℕ) → Type 0
AtMost n value = IfSome value (λ v. length v ≤ n)

no_more : (m n : ℕ) (value : Option (List ℕ)) → m ≤ n → AtMost m value → AtMost n value
no_more m n None le h = tt
no_more m n (Some v) le h = omega (arith, h)

value_by : (m : ℕ) (b : Bool) (t : Tag) (rest : Option Tag) → length t.value ≤ m → AtMost m (option_map (λ t. t.value) rest) → AtMost m (option_map (λ t. t.value) (cond b (Some t) rest))
value_by m true t rest le h = le
value_by m false t rest le h = h

value_within : (kind : ℕ) (tags : List Tag) → AtMost (length (spelling tags)) (value_of kind tags)
value_within kind [] = tt
value_within kind (t ∷ tags) =
    let l = length-longer t tags in
    value_by (length (spelling (t ∷ tags))) (is_of kind t) t (find (λ t. is_of kind t) tags) (omega arith) (no_more (length (spelling tags)) (length (spelling (t ∷ tags))) (value_of kind tags) (omega arith) (value_within kind tags))

served_by : (n : ℕ) (b : Bool) (v : List ℕ) → length v ≤ n → AtMost n (cond b (Some v) None)
served_by n true v le = le
served_by n false v le = tt

served_within : (n : ℕ) (value : Option (List ℕ)) → AtMost n value → AtMost n (served value)
served_within n None h = tt
served_within n (Some v) h = served_by n (is_served v) v h

one_within : (n : ℕ) (b : Bool) (value : Option (List ℕ)) → AtMost n value → AtMost n (cond b value None)
one_within n true value h = h
one_within n false value h = tt

service_within : (n : ℕ) (tags : List Tag) → AtMost n (value_of 0x0101 tags) → AtMost n (service_of tags)
unfolding service_of
service_within n tags h = one_within n (eqb (names_in tags) 1) (served (value_of 0x0101 tags)) (served_within n (value_of 0x0101 tags) h)

within : (payload : List ℕ) (tags : List Tag) → HasTags payload tags → length (spelling tags) ≤ length payload
within payload tags h = let l : length payload ≡ length (spelling tags) + length h.rest = ap length h.parts ∙ length-append (spelling tags) h.rest in omega arith

pub asked_short : (payload : List ℕ) (tags : List Tag) → HasTags payload tags → length payload ≤ 2048 → AreShort (asked_by tags)
asked_short payload tags h le =
    let w = within payload tags h in
    let short : (kind : ℕ) → IsShort (value_of kind tags) = λ kind. no_more (length (spelling tags)) 2048 (value_of kind tags) (omega arith) (value_within kind tags) in
    record { service = service_within 2048 tags (short 0x0101); uniq = short 0x0103; relay = short 0x0110 }

pub payload_short : (bytes : List ℕ) (f : Pppoe) → HasFrame bytes f → length bytes ≤ 2048 → length f.payload ≤ 2048
payload_short bytes f h le =
    let a = ap length h.parts in
    let b = length-append (head_bytes (head_of f) ++ f.payload) h.padding in
    let c = length-append (head_bytes (head_of f)) f.payload in
    omega arith

-- ---- what is written

echo_fits : (kind : ℕ) (value : Option (List ℕ)) → IsShort value → length (spelling (echo kind value)) ≤ 2052
echo_fits kind None h = omega arith
echo_fits kind (Some v) h = let l = length-longer (tag kind v) [] in omega (arith, h)

echoes_fit : (uniq relay : Option (List ℕ)) → IsShort uniq → IsShort relay → length (spelling (echoes uniq relay)) ≤ 4104
echoes_fit uniq relay u r =
    let a = ap length (flat_map-append spelling_of (echo 0x0103 uniq) (echo 0x0110 relay)) in
    let b = length-append (spelling (echo 0x0103 uniq)) (spelling (echo 0x0110 relay)) in
    let c = echo_fits 0x0103 uniq u in
    let d = echo_fits 0x0110 relay r in
    omega arith

pub pado_fits : (service name cookie : List ℕ) (uniq relay : Option (List ℕ)) → length service ≤ 2048 → length name ≤ 255 → length cookie ≡ 16 → IsShort uniq → IsShort relay → length (spelling (pado_tags service name cookie uniq relay)) ≤ 65535
pado_fits service name cookie uniq relay s n k u r =
    let e = echoes_fit uniq relay u r in
    let a = length-longer (tag 0x0104 cookie) (echoes uniq relay) in
    let b = length-longer (tag 0x0102 name) (tag 0x0104 cookie ∷ echoes uniq relay) in
    let c = length-longer (tag 0x0101 service) (tag 0x0102 name ∷ tag 0x0104 cookie ∷ echoes uniq relay) in
    omega arith

pub word_fits : (why : Cause) → length (cause_word why) ≤ 16
word_fits why = search rules

pub pads_fit : (service : List ℕ) (uniq relay : Option (List ℕ)) → length service ≤ 2048 → IsShort uniq → IsShort relay → length (spelling (pads_tags service uniq relay)) ≤ 65535
pads_fit service uniq relay s u r =
    let e = echoes_fit uniq relay u r in
    let a = length-longer (tag 0x0101 service) (echoes uniq relay) in
    omega arith

pub refusal_fits : (because : Cause) (uniq relay : Option (List ℕ)) → IsShort uniq → IsShort relay → length (spelling (refusal_tags because uniq relay)) ≤ 65535
refusal_fits because uniq relay u r =
    let e = echoes_fit uniq relay u r in
    let w = word_fits because in
    let a = length-longer (tag (error_kind because) (cause_word because)) (echoes uniq relay) in
    omega arith

-- ---- what is carried

length-head_bytes : (h : Head) → length h.dst ≡ 6 → length h.src ≡ 6 → length (head_bytes h) ≡ 20
unfolding head_bytes
length-head_bytes h dst src =
    let p = h.dst ++ h.src ++ u16_bytes h.ethertype in
    let q = p ++ (h.version ∷ h.code ∷ []) in
    let a : length (head_bytes h) ≡ length (q ++ u16_bytes h.session) + length (u16_bytes h.said) = length-append (q ++ u16_bytes h.session) (u16_bytes h.said) in
    let b : length (q ++ u16_bytes h.session) ≡ length q + length (u16_bytes h.session) = length-append q (u16_bytes h.session) in
    let c : length q ≡ length p + 2 = length-append p (h.version ∷ h.code ∷ []) in
    let d : length p ≡ length (h.dst ++ h.src) + length (u16_bytes h.ethertype) = length-append (h.dst ++ h.src) (u16_bytes h.ethertype) in
    let e = length-append h.dst h.src in
    let f = length-u16_bytes h.ethertype in
    let g = length-u16_bytes h.session in
    let i = length-u16_bytes h.said in
    omega (arith, dst, src)

pub payload_within : (bytes : List ℕ) (f : Pppoe) (found : Discovered) → HasFrame bytes f → IsPayloadOf f found → IsWithin bytes found
payload_within bytes f (Ignored why) h is = tt
payload_within bytes f (Reply because frame) h is = tt
payload_within bytes f (Admit src service uniq relay) h is = tt
payload_within bytes f (Left src session) h is = tt
payload_within bytes f (Carried src session start stop) h is =
    let a = ap length h.parts in
    let b = length-append (head_bytes (head_of f) ++ f.payload) h.padding in
    let c = length-append (head_bytes (head_of f)) f.payload in
    let d = length-head_bytes (head_of f) h.fits.dst h.fits.src in
    let s = h.fits.starts in
    let e = h.fits.ends in
    (omega (arith, is.0, is.1), omega (arith, is.1))

pub answer_within : (bytes : List ℕ) (f : Pppoe) (r : Result Discovered NoMemory) → HasFrame bytes f → IfOk r (λ found. IsPayloadOf f found) → IfOk r (λ found. IsWithin bytes found)
answer_within bytes f (Ok found) h is = payload_within bytes f found h is
answer_within bytes f (Err e) h is = tt
