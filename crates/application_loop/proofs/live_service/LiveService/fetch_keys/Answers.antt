-- The key file is fetched and read again.
use Rattle.std.proofs.Common.{ℕ, List, refl, subst}
use Rattle.std.specs.Prelude.{OnOk}
use Rattle.outside.specs.Acts.{Failed, Spent}
use Rattle.link_trait.specs.declared.cabinet.FetchFault.TheVariants as fault
use Rattle.application_loop.specs.KeysFetching.{ReadsFile}
use Rattle.application_loop.proofs.Happenings.{takes_then}
use Rattle.application_loop.proofs.RequestParts.{living_broke_off}
use Rattle.application_loop.proofs.KeysFetched.{file_read, did_without, lives_without_keys, unfetched_serves}
use Rattle.application_loop.proofs.live_service.LiveService.fetch_keys.Goals as goal

pub returns-in_err-tell_no_key_file-in-Err-Failed-clause-fetches :
    goal.returns-in_err-tell_no_key_file-in-Err-Failed-clause-fetches
returns-in_err-tell_no_key_file-in-Err-Failed-clause-fetches g c =
    λ run living rested.
    living_broke_off _ _ (takes_then c.args.self.now.moment) _ c.from_residual.result c.from_residual.ensures.1
    (unfetched_serves c.args.self.now.moment c.args.key_file.now Failed refl (did_without _ _ c.args.key_file.now c.in-Err-Failed.field-0 fault.Failed c.in-Err-Failed.field-0-is c.in-Err-Failed.ensures.does) living)

pub returns-in-Ok-clause-fetches : goal.returns-in-Ok-clause-fetches
returns-in-Ok-clause-fetches g c =
    λ run living rested.
    file_read c.read_keys.new.self c.args.self.now.moment c.args.key_file.now c.in-Ok.octets.items c.read_keys.result
    (subst (λ (o : List ℕ). OnOk c.read_keys.result (ReadsFile o c.args.self.now c.read_keys.new.self)) c.as_slice.ensures.value c.read_keys.ensures.reads) c.in-Ok.ensures.does rested living

pub returns-in-Ok-clause-moment : goal.returns-in-Ok-clause-moment
returns-in-Ok-clause-moment g c = c.read_keys.ensures.moment

pub returns-in_ok-tell_no_key_file-in-Err-Failed-clause-fetches :
    goal.returns-in_ok-tell_no_key_file-in-Err-Failed-clause-fetches
returns-in_ok-tell_no_key_file-in-Err-Failed-clause-fetches g c =
    λ run living rested.
    let tells = c.in_ok-tell_no_key_file-in-Err-Failed.ensures in
    lives_without_keys {old = c.args.self.now} c.args.self.now.moment c.args.key_file.now Failed refl
    (record {
      words = tells.words;
      keys = refl;
      tells = record { port = tells.tells; opened = refl; connected = refl; messages = refl };
      keeps = record { links = refl; held = refl; moment = refl; draining = refl; calls = refl };
    }) (did_without _ _ c.args.key_file.now c.in-Err-Failed.field-0 fault.Failed c.in-Err-Failed.field-0-is c.in-Err-Failed.ensures.does) rested living

pub returns-in-Err-NoMemory-clause-fetches : goal.returns-in-Err-NoMemory-clause-fetches
returns-in-Err-NoMemory-clause-fetches g c =
    λ run living rested. unfetched_serves c.args.self.now.moment c.args.key_file.now Spent refl
    (did_without _ _ c.args.key_file.now c.in-Err-NoMemory.field-0 (fault.NoMemory c.in-Err-NoMemory.want) c.in-Err-NoMemory.field-0-is c.in-Err-NoMemory.ensures.does) living
