-- What a letter does to a recovery tunnel: nothing, a refusal, a reset of its tunnel, or an end of it.
use Rattle.std.proofs.Common.{◌≡◌, ◌⊎◌, inl, inr, ℕ, Bool, true, false, cond, List, refl, sym, ◌∙◌, subst, Option, Some, None}
use Rattle.std.proofs.lemmas.Bool.{true≢false}
use Rattle.std.specs.Prelude.{not, ◌||◌, ◌==◌, is_none}
use Rattle.wire_base.specs.declared.cause.Cause.{Cause}
use Rattle.wire_base.specs.declared.cause.Cause.TheVariants as cause
use Rattle.control_message.specs.declared.message.Message.{Message}
use Rattle.control_message.specs.declared.message.Message.TheVariants.{Sccrq, Sccrp, Scccn, StopCcn, Hello, Ocrq, Ocrp, Occn, Icrq, Icrp, Iccn, Cdn, Wen, Sli, Fsq, Fsr}
use Rattle.control_message.specs.declared.message.Opening.{Opening}
use Rattle.control_channel.specs.Channel.{Channel, sent_into}
use Rattle.recovery_tunnel.specs.declared.progress.Progress.{Progress}
use Rattle.recovery_tunnel.specs.declared.progress.Progress.TheVariants.{Waiting, Reset, Given, Cleared}
use Rattle.recovery_tunnel.specs.Secrets.{response_by, lacks_secret, is_wrong}
use Rattle.recovery_tunnel.specs.Connections.{ControlConnection, is_waiting, letter_of, confirms, stop_of, refuses, told_by_refusal}
use Rattle.recovery_tunnel.specs.Attempts.{against, suggested_in, told_by_reply, after_reply, told_to_attempt, attempt_after}
use Rattle.recovery_tunnel.specs.Answers.{Answering, told_by_confirmation, after_confirmation, told_to_answer, answer_after}
use Rattle.step_laws.proofs.Lists.{and_right, branch, not_true}

-- why a recovery tunnel refuses what comes: its version, the secret, its order, or a fault
abbrev pub IsLineCause : Cause → Type 0
IsLineCause x =
    (x ≡ cause.Version) ⊎ ((x ≡ cause.Secret) ⊎ ((x ≡ cause.State) ⊎ ((x ≡ cause.Avp) ⊎ ((x ≡ cause.Value) ⊎ (x ≡ cause.Mandatory)))))

-- it is closed then, by a StopCCN
abbrev pub refused_line : Cause → ControlConnection → ControlConnection
refused_line x c = record c { channel = sent_into c.channel (letter_of (stop_of c.local x)); closed = true }

pub refuses_is : (x : Cause) (c : ControlConnection) → c.closed ≡ false → refuses x c ≡ refused_line x c
unfolding refuses
refuses_is x c is = branch (λ (d : ControlConnection). d ≡ refused_line x c) c.closed _ _ (λ closed. absurd (true≢false (sym closed ∙ is))) (λ live. refl)

pub told_refusal : (x : Cause) (b : Bool) → b ≡ false → cond b Waiting (Given x) ≡ Given x
told_refusal x true is = absurd (true≢false is)
told_refusal x false is = refl

pub waiting_open : (c : ControlConnection) → is_waiting c ≡ true → c.closed ≡ false
waiting_open c waits = not_true c.closed (and_right (is_none c.reset) (not c.closed) waits)

-- ---- an attempt

module _ (secret : Option (List ℕ)) (moment : ℕ) (m : Message) (c : ControlConnection) (P : Progress → ControlConnection → Type 0) where
  -- it tells so, whatever its channel is and whether it knows the other end's id
  abbrev pub TellsAttempt : Progress → Type 0
  TellsAttempt p = (channel : Channel) (remote : ℕ) → told_to_attempt secret m (record c { channel = channel; remote = remote }) ≡ p

  -- an SCCRP that came while it waits tells the id
  abbrev pub LearnsId : ℕ → Type 0
  LearnsId remote = (remote ≡ c.remote) ⊎ ((o : Opening) × (m ≡ Sccrp o) × (is_waiting c ≡ true) × (remote ≡ o.tunnel))

  pub record AttemptCases : Type 0 where
    pub waits : P Waiting c
    pub clears : TellsAttempt Cleared → P Cleared c
    pub refuses : (x : Cause) (remote : ℕ) → IsLineCause x → TellsAttempt (Given x) → LearnsId remote → P (Given x) (record (refused_line x c) { remote = remote })
    pub resets : (o : Opening) → m ≡ Sccrp o → is_waiting c ≡ true → against secret c.challenge o ≡ None
        → P (Reset (suggested_in o) o.attempt) (confirms o (response_by 3 secret o.challenge) moment c)

-- what is out of turn is refused, unless it is closed
module _ (secret : Option (List ℕ)) (moment : ℕ) (c : ControlConnection) (P : Progress → ControlConnection → Type 0) where
  abbrev Cases : Message → Type 0
  Cases m = AttemptCases secret moment m c P

  out_of_turn : (m : Message) → Cases m → (c.closed ≡ false → TellsAttempt secret moment m c P (Given cause.State))
      → P (told_by_refusal cause.State c) (refuses cause.State c)
  unfolding refuses
  out_of_turn m k tells =
      by c.closed refl
    where
      by : (b : Bool) → c.closed ≡ b → P (cond b Waiting (Given cause.State)) (cond b c (refused_line cause.State c))
      by true is = k.waits
      by false is = k.refuses cause.State c.remote (inr (inr (inl refl))) (tells is) (inl refl)

  -- an SCCRP
  against_cause : (o : Opening) (x : Cause) → against secret c.challenge o ≡ Some x → IsLineCause x
  against_cause o x h = by (o.version == 256) (lacks_secret secret o.challenge || is_wrong 2 secret c.challenge o.response) h
    where
      by : (a b : Bool) → cond (not a) (Some cause.Version) (cond b (Some cause.Secret) None) ≡ Some x → IsLineCause x
      by false b is = inl (let same : cause.Version ≡ x = cc in sym same)
      by true true is = inr (inl (let same : cause.Secret ≡ x = cc in sym same))
      by true false is = absurd cc

  reply_cases : (o : Opening) → Cases (Sccrp o) → (b : Bool) → is_waiting c ≡ b → (x : Option Cause) → against secret c.challenge o ≡ x
      → P (cond b (told_by_reply x o) (told_by_refusal cause.State c)) (cond b (after_reply x secret moment o c) (refuses cause.State c))
  unfolding told_to_attempt
  reply_cases o k true waits None right = k.resets o refl waits right
  reply_cases o k true waits (Some x) wrong =
      subst (λ (d : ControlConnection). P (Given x) (record d { remote = o.tunnel })) (sym (refuses_is x c (waiting_open c waits)))
      (k.refuses x o.tunnel (against_cause o x wrong) (λ channel remote. tells channel remote) (inr (o, refl, waits, refl)))
    where
      tells : TellsAttempt secret moment (Sccrp o) c P (Given x)
      tells channel remote = rw (waits, wrong) refl
  reply_cases o k false waits x right = out_of_turn (Sccrp o) k (λ live. tells live)
    where
      tells : c.closed ≡ false → TellsAttempt secret moment (Sccrp o) c P (Given cause.State)
      tells live channel remote = rw (waits, live) refl

  pub attempt_cases : (m : Message) → Cases m → P (told_to_attempt secret m c) (attempt_after secret moment m c)
  unfolding told_to_attempt attempt_after
  attempt_cases (Sccrp o) k = reply_cases o k (is_waiting c) refl (against secret c.challenge o) refl
  attempt_cases (Sccrq o) k = out_of_turn (Sccrq o) k (λ live channel remote. rw live refl)
  attempt_cases (Scccn response) k = out_of_turn (Scccn response) k (λ live channel remote. rw live refl)
  attempt_cases (StopCcn tunnel result error) k = k.clears (λ channel remote. refl)
  attempt_cases Hello k = k.waits
  attempt_cases (Ocrq remote) k = k.waits
  attempt_cases Ocrp k = k.waits
  attempt_cases Occn k = k.waits
  attempt_cases (Icrq remote serial calling) k = k.waits
  attempt_cases (Icrp remote) k = k.waits
  attempt_cases (Iccn speed framing sequenced) k = k.waits
  attempt_cases (Cdn remote code error) k = k.waits
  attempt_cases Wen k = k.waits
  attempt_cases Sli k = k.waits
  attempt_cases (Fsq sessions) k = k.waits
  attempt_cases (Fsr sessions) k = k.waits

-- ---- an answer

abbrev with_line : ControlConnection → Answering → Answering
with_line c a = record a { connection = c }

module _ (secret : Option (List ℕ)) (moment : ℕ) (m : Message) (a : Answering) (P : Progress → Answering → Type 0) where
  abbrev pub TellsAnswer : Progress → Type 0
  TellsAnswer p = (channel : Channel) → told_to_answer secret m (record a { connection = record a.connection { channel = channel } }) ≡ p

  pub record AnswerCases : Type 0 where
    pub waits : P Waiting a
    pub clears : TellsAnswer Cleared → P Cleared a
    pub refuses : (x : Cause) → IsLineCause x → TellsAnswer (Given x) → P (Given x) (record a { connection = refused_line x a.connection })
    pub resets : (response : Option (List ℕ)) → m ≡ Scccn response → is_waiting a.connection ≡ true → is_wrong 3 secret a.connection.challenge response ≡ false
        → P (Reset a.suggested None) (record a { connection = record a.connection { reset = Some moment } })

module _ (secret : Option (List ℕ)) (moment : ℕ) (a : Answering) (P : Progress → Answering → Type 0) where
  abbrev Heard : Message → Type 0
  Heard m = AnswerCases secret moment m a P

  unawaited : (m : Message) → Heard m → (a.connection.closed ≡ false → TellsAnswer secret moment m a P (Given cause.State))
      → P (told_by_refusal cause.State a.connection) (record a { connection = refuses cause.State a.connection })
  unfolding refuses
  unawaited m k tells = by a.connection.closed refl
    where
      by : (b : Bool) → a.connection.closed ≡ b
          → P (cond b Waiting (Given cause.State)) (record a { connection = cond b a.connection (refused_line cause.State a.connection) })
      by true is = k.waits
      by false is = k.refuses cause.State (inr (inr (inl refl))) (tells is)

  confirmation_cases : (response : Option (List ℕ)) → Heard (Scccn response) → (b : Bool) → is_waiting a.connection ≡ b
      → (w : Bool) → is_wrong 3 secret a.connection.challenge response ≡ w
      → P (cond b (told_by_confirmation w a.suggested) (told_by_refusal cause.State a.connection))
      (record a { connection = cond b (after_confirmation w moment a.connection) (refuses cause.State a.connection) })
  unfolding told_to_answer
  confirmation_cases response k true waits false right = k.resets response refl waits right
  confirmation_cases response k true waits true wrong =
      subst (λ (d : ControlConnection). P (Given cause.Secret) (record a { connection = d })) (sym (refuses_is cause.Secret a.connection (waiting_open a.connection waits)))
      (k.refuses cause.Secret (inr (inl refl)) (λ channel. tells channel))
    where
      tells : TellsAnswer secret moment (Scccn response) a P (Given cause.Secret)
      tells channel = rw (waits, wrong) refl
  confirmation_cases response k false waits w right = unawaited (Scccn response) k (λ live. tells live)
    where
      tells : a.connection.closed ≡ false → TellsAnswer secret moment (Scccn response) a P (Given cause.State)
      tells live channel = rw (waits, live) refl

  pub answer_cases : (m : Message) → Heard m → P (told_to_answer secret m a) (answer_after secret moment m a)
  unfolding told_to_answer answer_after
  answer_cases (Scccn response) k = confirmation_cases response k (is_waiting a.connection) refl (is_wrong 3 secret a.connection.challenge response) refl
  answer_cases (Sccrq o) k = unawaited (Sccrq o) k (λ live channel. rw live refl)
  answer_cases (Sccrp o) k = unawaited (Sccrp o) k (λ live channel. rw live refl)
  answer_cases (StopCcn tunnel result error) k = k.clears (λ channel. refl)
  answer_cases Hello k = k.waits
  answer_cases (Ocrq remote) k = k.waits
  answer_cases Ocrp k = k.waits
  answer_cases Occn k = k.waits
  answer_cases (Icrq remote serial calling) k = k.waits
  answer_cases (Icrp remote) k = k.waits
  answer_cases (Iccn speed framing sequenced) k = k.waits
  answer_cases (Cdn remote code error) k = k.waits
  answer_cases Wen k = k.waits
  answer_cases Sli k = k.waits
  answer_cases (Fsq sessions) k = k.waits
  answer_cases (Fsr sessions) k = k.waits
