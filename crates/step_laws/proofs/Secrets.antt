-- What is asked, answered and found wrong by a secret, in terms of bytes.
use Rattle.std.proofs.Common.{◌≡◌, inl, inr, ⊎_elim, ℕ, Bool, true, false, cond, List, ◌++◌, length, replicate, refl, sym, ap, ◌∙◌, Option, Some, None, is_some, arith}
use Rattle.std.proofs.lemmas.Bool.{true≢false}
use Rattle.std.proofs.lemmas.Bool.Decides.{Decides-eqb}
use Rattle.std.proofs.lemmas.Slice.Eq.{slice_eq-Decides}
use Rattle.std.proofs.lemmas.List.{length-take-le, length-append, length-replicate}
use Rattle.std.specs.Bool.{Decides}
use Rattle.std.specs.Prelude.{◌==◌, ◌||◌, not, is_none}
use Rattle.control_message.specs.declared.message.Opening.{Opening}
use Rattle.tunnel_secret.specs.Response.{response_of, is_response}
use Rattle.recovery_tunnel.specs.Secrets.{response_by as answered_by}
use Rattle.end_model.specs.Secrets.{sixteen, challenge_by, response_by, lacks_secret, is_wrong}
use Rattle.end_model.specs.declared.tunnel.Config.{Config}
use Rattle.end_model.specs.Messages.{is_acceptable, request_of, hidden_by, hidden_request}
use Rattle.end_model.specs.Reasons.{other_version, no_recovery, no_secret}
use Rattle.step_laws.specs.Hides.{HidesNumber, InPlain, ByVector}
use Rattle.step_laws.specs.Moves.{Asks, Responds, IsRight, LacksSecret, FailsSecret}

pub sixteen_bytes : (block : List ℕ) → length (sixteen block) ≡ 16
sixteen_bytes block =
    length-take-le 16 (block ++ replicate 16 0)
    (let added = length-append block (replicate 16 0) in let zeros = length-replicate {A = ℕ} 16 0 in omega (arith, added, zeros))

pub asks_so : (secret : Option (List ℕ)) (block : List ℕ) → Asks secret (challenge_by secret block)
asks_so None block = refl
asks_so (Some s) block = (sixteen block, refl, sixteen_bytes block)

pub responds_so : (kind : ℕ) (secret asked : Option (List ℕ)) → Responds kind secret asked (response_by kind secret asked)
responds_so kind None asked = refl
responds_so kind (Some s) None = refl
responds_so kind (Some s) (Some a) = refl

-- so it is where a recovery tunnel answers
pub answers_so : (kind : ℕ) (secret asked : Option (List ℕ)) → Responds kind secret asked (answered_by kind secret asked)
answers_so kind None asked = refl
answers_so kind (Some s) None = refl
answers_so kind (Some s) (Some a) = refl

pub lacks_so : (secret asked : Option (List ℕ)) → lacks_secret secret asked ≡ true → LacksSecret secret asked
lacks_so None (Some a) is = (refl, refl)
lacks_so None None is = absurd (true≢false (sym is))
lacks_so (Some s) None is = absurd (true≢false (sym is))
lacks_so (Some s) (Some a) is = absurd (true≢false (sym is))

pub lacks_not : (secret asked : Option (List ℕ)) → lacks_secret secret asked ≡ false → LacksSecret secret asked → ⊥
lacks_not None (Some a) is lacks = true≢false is
lacks_not None None is lacks = true≢false (sym lacks.0)
lacks_not (Some s) asked is lacks = let none : Some s ≡ None = lacks.1 in absurd cc

-- a request is hidden where the end hides its numbers and has a secret
pub hides_number : (c : Config) (block : List ℕ) (session : ℕ) (who : List ℕ) → HidesNumber c session who (hidden_request c block session who)
hides_number c block session who = by c.hide c.secret refl refl
  where
    by : (hide : Bool) (secret : Option (List ℕ)) → c.hide ≡ hide → c.secret ≡ secret
        → HidesNumber c session who (hidden_by hide secret (sixteen block) (request_of session who))
    by false secret plain has = InPlain (λ hides. absurd (true≢false (sym hides ∙ plain))) refl
    by true None hides none = InPlain (λ h. none) refl
    by true (Some s) hides some = ByVector s (sixteen block) hides some (sixteen_bytes block) refl

-- ---- answers

-- whether an answer is right is decided byte by byte
decided : (kind : ℕ) (secret asked given : List ℕ) → Decides (is_response kind secret asked given) (given ≡ response_of kind secret asked)
unfolding is_response
decided kind secret asked given = slice_eq-Decides Decides-eqb given (response_of kind secret asked) _ refl

not_false : (b : Bool) → not b ≡ false → b ≡ true
not_false true is = refl
not_false false is = absurd (true≢false is)

not_true : (b : Bool) → not b ≡ true → b ≡ false
not_true false is = refl
not_true true is = absurd (true≢false (sym is))

pub right_of : (kind : ℕ) (secret asked given : Option (List ℕ)) → is_wrong kind secret asked given ≡ false → IsRight kind secret asked given
right_of kind None asked given is = tt
right_of kind (Some s) None given is = tt
right_of kind (Some s) (Some a) None is = absurd (true≢false is)
right_of kind (Some s) (Some a) (Some g) is =
    ap (λ (x : List ℕ). Some x) ((decided kind s a g).0 (not_false (is_response kind s a g) is))

pub wrong_of : (kind : ℕ) (secret asked given : Option (List ℕ)) → is_wrong kind secret asked given ≡ true → IsRight kind secret asked given → ⊥
wrong_of kind None asked given is right = true≢false (sym is)
wrong_of kind (Some s) None given is right = true≢false (sym is)
wrong_of kind (Some s) (Some a) None is right = absurd cc
wrong_of kind (Some s) (Some a) (Some g) is right =
    let same : g ≡ response_of kind s a = cc in
    true≢false (sym ((decided kind s a g).1 same) ∙ not_true (is_response kind s a g) is)

pub right_if_unasked : (kind : ℕ) (secret given : Option (List ℕ)) → IsRight kind secret None given
right_if_unasked kind None given = tt
right_if_unasked kind (Some s) given = tt

-- ---- openings

-- an opening fails by the secret
abbrev pub fails : Option (List ℕ) → Option (List ℕ) → Opening → Bool
fails secret asked o = lacks_secret secret o.challenge || is_wrong 2 secret asked o.response

pub fails_so : (secret asked : Option (List ℕ)) (o : Opening) → fails secret asked o ≡ true → FailsSecret secret asked o
fails_so secret asked o is = by (lacks_secret secret o.challenge) (is_wrong 2 secret asked o.response) refl refl is
  where
    by : (a b : Bool) → lacks_secret secret o.challenge ≡ a → is_wrong 2 secret asked o.response ≡ b → (a || b) ≡ true → FailsSecret secret asked o
    by true b lacks wrong is = inl (lacks_so secret o.challenge lacks)
    by false true lacks wrong is = inr (wrong_of 2 secret asked o.response wrong)
    by false false lacks wrong is = absurd (true≢false (sym is))

pub fails_not : (secret asked : Option (List ℕ)) (o : Opening) → fails secret asked o ≡ false → FailsSecret secret asked o → ⊥
fails_not secret asked o is = by (lacks_secret secret o.challenge) (is_wrong 2 secret asked o.response) refl refl is
  where
    by : (a b : Bool) → lacks_secret secret o.challenge ≡ a → is_wrong 2 secret asked o.response ≡ b → (a || b) ≡ false
        → FailsSecret secret asked o → ⊥
    by true b lacks wrong is failed = true≢false is
    by false true lacks wrong is failed = true≢false is
    by false false lacks wrong is failed = ⊎_elim
        (λ lacking. lacks_not secret o.challenge lacks lacking)
        (λ bad. bad (right_of 2 secret asked o.response wrong))
        failed

-- what an acceptable opening proves
pub record IsProven (secret asked : Option (List ℕ)) (o : Opening) : Type 0 where
  pub right : IsRight 2 secret asked o.response
  pub able : LacksSecret secret o.challenge → ⊥

pub acceptable_proven : (secret asked : Option (List ℕ)) (o : Opening) → is_acceptable secret asked o ≡ true → IsProven secret asked o
acceptable_proven secret asked o good = by (o.version == 256) (is_some o.recovery) (lacks_secret secret o.challenge) (is_wrong 2 secret asked o.response) refl refl refl refl good
  where
    by : (a b c d : Bool) → (o.version == 256) ≡ a → is_some o.recovery ≡ b → lacks_secret secret o.challenge ≡ c
        → is_wrong 2 secret asked o.response ≡ d
        → is_none (cond (not a) (Some other_version) (cond b (Some no_recovery) (cond (c || d) (Some no_secret) None))) ≡ true
        → IsProven secret asked o
    by false b c d version recovery lacks wrong is = absurd (true≢false (sym is))
    by true true c d version recovery lacks wrong is = absurd (true≢false (sym is))
    by true false true d version recovery lacks wrong is = absurd (true≢false (sym is))
    by true false false true version recovery lacks wrong is = absurd (true≢false (sym is))
    by true false false false version recovery lacks wrong is =
        record { right = right_of 2 secret asked o.response wrong; able = lacks_not secret o.challenge lacks }

-- an end that asked nothing finds no answer wrong
asked_none : (secret given : Option (List ℕ)) → is_wrong 2 secret None given ≡ false
asked_none None given = refl
asked_none (Some s) given = refl

pub acceptable_at_first : (secret : Option (List ℕ)) (o : Opening) → (o.version == 256) ≡ true → is_some o.recovery ≡ false
    → lacks_secret secret o.challenge ≡ false → is_acceptable secret None o ≡ true
acceptable_at_first secret o version recovery lacks = rw (version, recovery, lacks, asked_none secret o.response) refl
