-- What a port that may be missing tells: nothing waits on a missing one, and it keeps nothing of what it is given.
use Rattle.std.specs.Prelude.{ℕ, List, [], Option, Some, None}

abbrev pub waiting_of : {S T : Type 0} → (S → Option (List T)) → Option S → Option (List T)
waiting_of waiting None = Some []
waiting_of waiting (Some port) = waiting port

abbrev pub given_of : {S T : Type 0} → (S → Option (List T)) → Option S → Option (List T)
given_of given None = None
given_of given (Some port) = given port

abbrev pub asked_of : {S : Type 0} → (S → Option ℕ) → Option S → Option ℕ
asked_of asked None = None
asked_of asked (Some port) = asked port

abbrev pub faults_of : {S : Type 0} → (S → ℕ) → Option S → ℕ
faults_of faults None = 0
faults_of faults (Some port) = faults port
