-- The inventories of cases, computed.
use Rattle.std.specs.Prelude.{◌≡◌, refl, pos, negsuc, [], ◌∷◌, Ok, Err, codes}
use Rattle.pb_semantics.specs.Data.{int, text, list, rec, opaque, no_items, item, no_fields, field}
use Rattle.pb_language.specs.Inventories.{inventory_from, over_limit, wrong_form, wrong_host_name}

inventory_480 : inventory_from (rec (field (codes "all") (list (item (text (codes "hhhhhhhhhhhhhhhhhhhhhhhhhhhhhhhhhhhhhhhhhhhhhhhhhhhhhhhhhhhhhhhhhhhhhhhhhhhhhhhhhhhhhhhhhhhhhhhhhhhhhhhhhhhhhhhhhhhhhhhhhhhhhhhhhhhhhhhhhhhhhhhhhhhhhhhhhhhhhhhhhhhhhhhhhhhhhhhhhhhhhhhhhhhhhhhhhhhhhhhhhhhhhhhhhhhhhhhhhhhhhhhhhhhhhhhhhhhhhhhhhhhhhhhhhhhhhh")) (no_items))) (no_fields))) ≡ Err wrong_host_name
inventory_480 = refl

inventory_481 : inventory_from (rec (field (codes "all") (rec (field (codes "hosts") (list (item (text (codes "db1")) (item (text (codes "web1")) (no_items)))) (field (codes "vars") (rec (field (codes "x") (int (pos 1)) (no_fields))) (no_fields)))) (no_fields))) ≡ Ok (record { hosts = (record { name = (codes "db1"); variables = (field (codes "x") (int (pos 1)) (no_fields)) } ∷ record { name = (codes "web1"); variables = (field (codes "x") (int (pos 1)) (no_fields)) } ∷ []); groups = (record { name = (codes "all"); hosts = ((codes "db1") ∷ (codes "web1") ∷ []) } ∷ record { name = (codes "ungrouped"); hosts = ((codes "db1") ∷ (codes "web1") ∷ []) } ∷ []) })
inventory_481 = refl

inventory_482 : inventory_from (rec (field (codes "all") (rec (field (codes "hosts") (list (item (text (codes "db1")) (item (text (codes "web1")) (no_items)))) (no_fields))) (no_fields))) ≡ Ok (record { hosts = (record { name = (codes "db1"); variables = (no_fields) } ∷ record { name = (codes "web1"); variables = (no_fields) } ∷ []); groups = (record { name = (codes "all"); hosts = ((codes "db1") ∷ (codes "web1") ∷ []) } ∷ record { name = (codes "ungrouped"); hosts = ((codes "db1") ∷ (codes "web1") ∷ []) } ∷ []) })
inventory_482 = refl

inventory_483 : inventory_from (rec (field (codes "all") (rec (field (codes "hosts") (list (item (text (codes "h0")) (item (text (codes "h1")) (item (text (codes "h2")) (item (text (codes "h3")) (item (text (codes "h4")) (item (text (codes "h5")) (item (text (codes "h6")) (item (text (codes "h7")) (item (text (codes "h8")) (item (text (codes "h9")) (item (text (codes "h10")) (item (text (codes "h11")) (item (text (codes "h12")) (item (text (codes "h13")) (item (text (codes "h14")) (item (text (codes "h15")) (item (text (codes "h16")) (item (text (codes "h17")) (item (text (codes "h18")) (item (text (codes "h19")) (item (text (codes "h20")) (item (text (codes "h21")) (item (text (codes "h22")) (item (text (codes "h23")) (item (text (codes "h24")) (item (text (codes "h25")) (item (text (codes "h26")) (item (text (codes "h27")) (item (text (codes "h28")) (item (text (codes "h29")) (item (text (codes "h30")) (item (text (codes "h31")) (item (text (codes "h32")) (item (text (codes "h33")) (item (text (codes "h34")) (item (text (codes "h35")) (item (text (codes "h36")) (item (text (codes "h37")) (item (text (codes "h38")) (item (text (codes "h39")) (item (text (codes "h40")) (item (text (codes "h41")) (item (text (codes "h42")) (item (text (codes "h43")) (item (text (codes "h44")) (item (text (codes "h45")) (item (text (codes "h46")) (item (text (codes "h47")) (item (text (codes "h48")) (item (text (codes "h49")) (item (text (codes "h50")) (item (text (codes "h51")) (item (text (codes "h52")) (item (text (codes "h53")) (item (text (codes "h54")) (item (text (codes "h55")) (item (text (codes "h56")) (item (text (codes "h57")) (item (text (codes "h58")) (item (text (codes "h59")) (item (text (codes "h60")) (item (text (codes "h61")) (item (text (codes "h62")) (item (text (codes "h63")) (item (text (codes "h64")) (item (text (codes "h65")) (item (text (codes "h66")) (item (text (codes "h67")) (item (text (codes "h68")) (item (text (codes "h69")) (item (text (codes "h70")) (item (text (codes "h71")) (item (text (codes "h72")) (item (text (codes "h73")) (item (text (codes "h74")) (item (text (codes "h75")) (item (text (codes "h76")) (item (text (codes "h77")) (item (text (codes "h78")) (item (text (codes "h79")) (item (text (codes "h80")) (item (text (codes "h81")) (item (text (codes "h82")) (item (text (codes "h83")) (item (text (codes "h84")) (item (text (codes "h85")) (item (text (codes "h86")) (item (text (codes "h87")) (item (text (codes "h88")) (item (text (codes "h89")) (item (text (codes "h90")) (item (text (codes "h91")) (item (text (codes "h92")) (item (text (codes "h93")) (item (text (codes "h94")) (item (text (codes "h95")) (item (text (codes "h96")) (item (text (codes "h97")) (item (text (codes "h98")) (item (text (codes "h99")) (item (text (codes "h100")) (item (text (codes "h101")) (item (text (codes "h102")) (item (text (codes "h103")) (item (text (codes "h104")) (item (text (codes "h105")) (item (text (codes "h106")) (item (text (codes "h107")) (item (text (codes "h108")) (item (text (codes "h109")) (item (text (codes "h110")) (item (text (codes "h111")) (item (text (codes "h112")) (item (text (codes "h113")) (item (text (codes "h114")) (item (text (codes "h115")) (item (text (codes "h116")) (item (text (codes "h117")) (item (text (codes "h118")) (item (text (codes "h119")) (item (text (codes "h120")) (item (text (codes "h121")) (item (text (codes "h122")) (item (text (codes "h123")) (item (text (codes "h124")) (item (text (codes "h125")) (item (text (codes "h126")) (item (text (codes "h127")) (item (text (codes "h128")) (item (text (codes "h129")) (item (text (codes "h130")) (item (text (codes "h131")) (item (text (codes "h132")) (item (text (codes "h133")) (item (text (codes "h134")) (item (text (codes "h135")) (item (text (codes "h136")) (item (text (codes "h137")) (item (text (codes "h138")) (item (text (codes "h139")) (item (text (codes "h140")) (item (text (codes "h141")) (item (text (codes "h142")) (item (text (codes "h143")) (item (text (codes "h144")) (item (text (codes "h145")) (item (text (codes "h146")) (item (text (codes "h147")) (item (text (codes "h148")) (item (text (codes "h149")) (item (text (codes "h150")) (item (text (codes "h151")) (item (text (codes "h152")) (item (text (codes "h153")) (item (text (codes "h154")) (item (text (codes "h155")) (item (text (codes "h156")) (item (text (codes "h157")) (item (text (codes "h158")) (item (text (codes "h159")) (item (text (codes "h160")) (item (text (codes "h161")) (item (text (codes "h162")) (item (text (codes "h163")) (item (text (codes "h164")) (item (text (codes "h165")) (item (text (codes "h166")) (item (text (codes "h167")) (item (text (codes "h168")) (item (text (codes "h169")) (item (text (codes "h170")) (item (text (codes "h171")) (item (text (codes "h172")) (item (text (codes "h173")) (item (text (codes "h174")) (item (text (codes "h175")) (item (text (codes "h176")) (item (text (codes "h177")) (item (text (codes "h178")) (item (text (codes "h179")) (item (text (codes "h180")) (item (text (codes "h181")) (item (text (codes "h182")) (item (text (codes "h183")) (item (text (codes "h184")) (item (text (codes "h185")) (item (text (codes "h186")) (item (text (codes "h187")) (item (text (codes "h188")) (item (text (codes "h189")) (item (text (codes "h190")) (item (text (codes "h191")) (item (text (codes "h192")) (item (text (codes "h193")) (item (text (codes "h194")) (item (text (codes "h195")) (item (text (codes "h196")) (item (text (codes "h197")) (item (text (codes "h198")) (item (text (codes "h199")) (item (text (codes "h200")) (item (text (codes "h201")) (item (text (codes "h202")) (item (text (codes "h203")) (item (text (codes "h204")) (item (text (codes "h205")) (item (text (codes "h206")) (item (text (codes "h207")) (item (text (codes "h208")) (item (text (codes "h209")) (item (text (codes "h210")) (item (text (codes "h211")) (item (text (codes "h212")) (item (text (codes "h213")) (item (text (codes "h214")) (item (text (codes "h215")) (item (text (codes "h216")) (item (text (codes "h217")) (item (text (codes "h218")) (item (text (codes "h219")) (item (text (codes "h220")) (item (text (codes "h221")) (item (text (codes "h222")) (item (text (codes "h223")) (item (text (codes "h224")) (item (text (codes "h225")) (item (text (codes "h226")) (item (text (codes "h227")) (item (text (codes "h228")) (item (text (codes "h229")) (item (text (codes "h230")) (item (text (codes "h231")) (item (text (codes "h232")) (item (text (codes "h233")) (item (text (codes "h234")) (item (text (codes "h235")) (item (text (codes "h236")) (item (text (codes "h237")) (item (text (codes "h238")) (item (text (codes "h239")) (item (text (codes "h240")) (item (text (codes "h241")) (item (text (codes "h242")) (item (text (codes "h243")) (item (text (codes "h244")) (item (text (codes "h245")) (item (text (codes "h246")) (item (text (codes "h247")) (item (text (codes "h248")) (item (text (codes "h249")) (item (text (codes "h250")) (item (text (codes "h251")) (item (text (codes "h252")) (item (text (codes "h253")) (item (text (codes "h254")) (item (text (codes "h255")) (item (text (codes "h256")) (item (text (codes "h257")) (item (text (codes "h258")) (item (text (codes "h259")) (item (text (codes "h260")) (item (text (codes "h261")) (item (text (codes "h262")) (item (text (codes "h263")) (item (text (codes "h264")) (item (text (codes "h265")) (item (text (codes "h266")) (item (text (codes "h267")) (item (text (codes "h268")) (item (text (codes "h269")) (item (text (codes "h270")) (item (text (codes "h271")) (item (text (codes "h272")) (item (text (codes "h273")) (item (text (codes "h274")) (item (text (codes "h275")) (item (text (codes "h276")) (item (text (codes "h277")) (item (text (codes "h278")) (item (text (codes "h279")) (item (text (codes "h280")) (item (text (codes "h281")) (item (text (codes "h282")) (item (text (codes "h283")) (item (text (codes "h284")) (item (text (codes "h285")) (item (text (codes "h286")) (item (text (codes "h287")) (item (text (codes "h288")) (item (text (codes "h289")) (item (text (codes "h290")) (item (text (codes "h291")) (item (text (codes "h292")) (item (text (codes "h293")) (item (text (codes "h294")) (item (text (codes "h295")) (item (text (codes "h296")) (item (text (codes "h297")) (item (text (codes "h298")) (item (text (codes "h299")) (item (text (codes "h300")) (item (text (codes "h301")) (item (text (codes "h302")) (item (text (codes "h303")) (item (text (codes "h304")) (item (text (codes "h305")) (item (text (codes "h306")) (item (text (codes "h307")) (item (text (codes "h308")) (item (text (codes "h309")) (item (text (codes "h310")) (item (text (codes "h311")) (item (text (codes "h312")) (item (text (codes "h313")) (item (text (codes "h314")) (item (text (codes "h315")) (item (text (codes "h316")) (item (text (codes "h317")) (item (text (codes "h318")) (item (text (codes "h319")) (item (text (codes "h320")) (item (text (codes "h321")) (item (text (codes "h322")) (item (text (codes "h323")) (item (text (codes "h324")) (item (text (codes "h325")) (item (text (codes "h326")) (item (text (codes "h327")) (item (text (codes "h328")) (item (text (codes "h329")) (item (text (codes "h330")) (item (text (codes "h331")) (item (text (codes "h332")) (item (text (codes "h333")) (item (text (codes "h334")) (item (text (codes "h335")) (item (text (codes "h336")) (item (text (codes "h337")) (item (text (codes "h338")) (item (text (codes "h339")) (item (text (codes "h340")) (item (text (codes "h341")) (item (text (codes "h342")) (item (text (codes "h343")) (item (text (codes "h344")) (item (text (codes "h345")) (item (text (codes "h346")) (item (text (codes "h347")) (item (text (codes "h348")) (item (text (codes "h349")) (item (text (codes "h350")) (item (text (codes "h351")) (item (text (codes "h352")) (item (text (codes "h353")) (item (text (codes "h354")) (item (text (codes "h355")) (item (text (codes "h356")) (item (text (codes "h357")) (item (text (codes "h358")) (item (text (codes "h359")) (item (text (codes "h360")) (item (text (codes "h361")) (item (text (codes "h362")) (item (text (codes "h363")) (item (text (codes "h364")) (item (text (codes "h365")) (item (text (codes "h366")) (item (text (codes "h367")) (item (text (codes "h368")) (item (text (codes "h369")) (item (text (codes "h370")) (item (text (codes "h371")) (item (text (codes "h372")) (item (text (codes "h373")) (item (text (codes "h374")) (item (text (codes "h375")) (item (text (codes "h376")) (item (text (codes "h377")) (item (text (codes "h378")) (item (text (codes "h379")) (item (text (codes "h380")) (item (text (codes "h381")) (item (text (codes "h382")) (item (text (codes "h383")) (item (text (codes "h384")) (item (text (codes "h385")) (item (text (codes "h386")) (item (text (codes "h387")) (item (text (codes "h388")) (item (text (codes "h389")) (item (text (codes "h390")) (item (text (codes "h391")) (item (text (codes "h392")) (item (text (codes "h393")) (item (text (codes "h394")) (item (text (codes "h395")) (item (text (codes "h396")) (item (text (codes "h397")) (item (text (codes "h398")) (item (text (codes "h399")) (item (text (codes "h400")) (item (text (codes "h401")) (item (text (codes "h402")) (item (text (codes "h403")) (item (text (codes "h404")) (item (text (codes "h405")) (item (text (codes "h406")) (item (text (codes "h407")) (item (text (codes "h408")) (item (text (codes "h409")) (item (text (codes "h410")) (item (text (codes "h411")) (item (text (codes "h412")) (item (text (codes "h413")) (item (text (codes "h414")) (item (text (codes "h415")) (item (text (codes "h416")) (item (text (codes "h417")) (item (text (codes "h418")) (item (text (codes "h419")) (item (text (codes "h420")) (item (text (codes "h421")) (item (text (codes "h422")) (item (text (codes "h423")) (item (text (codes "h424")) (item (text (codes "h425")) (item (text (codes "h426")) (item (text (codes "h427")) (item (text (codes "h428")) (item (text (codes "h429")) (item (text (codes "h430")) (item (text (codes "h431")) (item (text (codes "h432")) (item (text (codes "h433")) (item (text (codes "h434")) (item (text (codes "h435")) (item (text (codes "h436")) (item (text (codes "h437")) (item (text (codes "h438")) (item (text (codes "h439")) (item (text (codes "h440")) (item (text (codes "h441")) (item (text (codes "h442")) (item (text (codes "h443")) (item (text (codes "h444")) (item (text (codes "h445")) (item (text (codes "h446")) (item (text (codes "h447")) (item (text (codes "h448")) (item (text (codes "h449")) (item (text (codes "h450")) (item (text (codes "h451")) (item (text (codes "h452")) (item (text (codes "h453")) (item (text (codes "h454")) (item (text (codes "h455")) (item (text (codes "h456")) (item (text (codes "h457")) (item (text (codes "h458")) (item (text (codes "h459")) (item (text (codes "h460")) (item (text (codes "h461")) (item (text (codes "h462")) (item (text (codes "h463")) (item (text (codes "h464")) (item (text (codes "h465")) (item (text (codes "h466")) (item (text (codes "h467")) (item (text (codes "h468")) (item (text (codes "h469")) (item (text (codes "h470")) (item (text (codes "h471")) (item (text (codes "h472")) (item (text (codes "h473")) (item (text (codes "h474")) (item (text (codes "h475")) (item (text (codes "h476")) (item (text (codes "h477")) (item (text (codes "h478")) (item (text (codes "h479")) (item (text (codes "h480")) (item (text (codes "h481")) (item (text (codes "h482")) (item (text (codes "h483")) (item (text (codes "h484")) (item (text (codes "h485")) (item (text (codes "h486")) (item (text (codes "h487")) (item (text (codes "h488")) (item (text (codes "h489")) (item (text (codes "h490")) (item (text (codes "h491")) (item (text (codes "h492")) (item (text (codes "h493")) (item (text (codes "h494")) (item (text (codes "h495")) (item (text (codes "h496")) (item (text (codes "h497")) (item (text (codes "h498")) (item (text (codes "h499")) (item (text (codes "h500")) (item (text (codes "h501")) (item (text (codes "h502")) (item (text (codes "h503")) (item (text (codes "h504")) (item (text (codes "h505")) (item (text (codes "h506")) (item (text (codes "h507")) (item (text (codes "h508")) (item (text (codes "h509")) (item (text (codes "h510")) (item (text (codes "h511")) (item (text (codes "h512")) (item (text (codes "h513")) (item (text (codes "h514")) (item (text (codes "h515")) (item (text (codes "h516")) (item (text (codes "h517")) (item (text (codes "h518")) (item (text (codes "h519")) (item (text (codes "h520")) (item (text (codes "h521")) (item (text (codes "h522")) (item (text (codes "h523")) (item (text (codes "h524")) (item (text (codes "h525")) (item (text (codes "h526")) (item (text (codes "h527")) (item (text (codes "h528")) (item (text (codes "h529")) (item (text (codes "h530")) (item (text (codes "h531")) (item (text (codes "h532")) (item (text (codes "h533")) (item (text (codes "h534")) (item (text (codes "h535")) (item (text (codes "h536")) (item (text (codes "h537")) (item (text (codes "h538")) (item (text (codes "h539")) (item (text (codes "h540")) (item (text (codes "h541")) (item (text (codes "h542")) (item (text (codes "h543")) (item (text (codes "h544")) (item (text (codes "h545")) (item (text (codes "h546")) (item (text (codes "h547")) (item (text (codes "h548")) (item (text (codes "h549")) (item (text (codes "h550")) (item (text (codes "h551")) (item (text (codes "h552")) (item (text (codes "h553")) (item (text (codes "h554")) (item (text (codes "h555")) (item (text (codes "h556")) (item (text (codes "h557")) (item (text (codes "h558")) (item (text (codes "h559")) (item (text (codes "h560")) (item (text (codes "h561")) (item (text (codes "h562")) (item (text (codes "h563")) (item (text (codes "h564")) (item (text (codes "h565")) (item (text (codes "h566")) (item (text (codes "h567")) (item (text (codes "h568")) (item (text (codes "h569")) (item (text (codes "h570")) (item (text (codes "h571")) (item (text (codes "h572")) (item (text (codes "h573")) (item (text (codes "h574")) (item (text (codes "h575")) (item (text (codes "h576")) (item (text (codes "h577")) (item (text (codes "h578")) (item (text (codes "h579")) (item (text (codes "h580")) (item (text (codes "h581")) (item (text (codes "h582")) (item (text (codes "h583")) (item (text (codes "h584")) (item (text (codes "h585")) (item (text (codes "h586")) (item (text (codes "h587")) (item (text (codes "h588")) (item (text (codes "h589")) (item (text (codes "h590")) (item (text (codes "h591")) (item (text (codes "h592")) (item (text (codes "h593")) (item (text (codes "h594")) (item (text (codes "h595")) (item (text (codes "h596")) (item (text (codes "h597")) (item (text (codes "h598")) (item (text (codes "h599")) (item (text (codes "h600")) (item (text (codes "h601")) (item (text (codes "h602")) (item (text (codes "h603")) (item (text (codes "h604")) (item (text (codes "h605")) (item (text (codes "h606")) (item (text (codes "h607")) (item (text (codes "h608")) (item (text (codes "h609")) (item (text (codes "h610")) (item (text (codes "h611")) (item (text (codes "h612")) (item (text (codes "h613")) (item (text (codes "h614")) (item (text (codes "h615")) (item (text (codes "h616")) (item (text (codes "h617")) (item (text (codes "h618")) (item (text (codes "h619")) (item (text (codes "h620")) (item (text (codes "h621")) (item (text (codes "h622")) (item (text (codes "h623")) (item (text (codes "h624")) (item (text (codes "h625")) (item (text (codes "h626")) (item (text (codes "h627")) (item (text (codes "h628")) (item (text (codes "h629")) (item (text (codes "h630")) (item (text (codes "h631")) (item (text (codes "h632")) (item (text (codes "h633")) (item (text (codes "h634")) (item (text (codes "h635")) (item (text (codes "h636")) (item (text (codes "h637")) (item (text (codes "h638")) (item (text (codes "h639")) (item (text (codes "h640")) (item (text (codes "h641")) (item (text (codes "h642")) (item (text (codes "h643")) (item (text (codes "h644")) (item (text (codes "h645")) (item (text (codes "h646")) (item (text (codes "h647")) (item (text (codes "h648")) (item (text (codes "h649")) (item (text (codes "h650")) (item (text (codes "h651")) (item (text (codes "h652")) (item (text (codes "h653")) (item (text (codes "h654")) (item (text (codes "h655")) (item (text (codes "h656")) (item (text (codes "h657")) (item (text (codes "h658")) (item (text (codes "h659")) (item (text (codes "h660")) (item (text (codes "h661")) (item (text (codes "h662")) (item (text (codes "h663")) (item (text (codes "h664")) (item (text (codes "h665")) (item (text (codes "h666")) (item (text (codes "h667")) (item (text (codes "h668")) (item (text (codes "h669")) (item (text (codes "h670")) (item (text (codes "h671")) (item (text (codes "h672")) (item (text (codes "h673")) (item (text (codes "h674")) (item (text (codes "h675")) (item (text (codes "h676")) (item (text (codes "h677")) (item (text (codes "h678")) (item (text (codes "h679")) (item (text (codes "h680")) (item (text (codes "h681")) (item (text (codes "h682")) (item (text (codes "h683")) (item (text (codes "h684")) (item (text (codes "h685")) (item (text (codes "h686")) (item (text (codes "h687")) (item (text (codes "h688")) (item (text (codes "h689")) (item (text (codes "h690")) (item (text (codes "h691")) (item (text (codes "h692")) (item (text (codes "h693")) (item (text (codes "h694")) (item (text (codes "h695")) (item (text (codes "h696")) (item (text (codes "h697")) (item (text (codes "h698")) (item (text (codes "h699")) (item (text (codes "h700")) (item (text (codes "h701")) (item (text (codes "h702")) (item (text (codes "h703")) (item (text (codes "h704")) (item (text (codes "h705")) (item (text (codes "h706")) (item (text (codes "h707")) (item (text (codes "h708")) (item (text (codes "h709")) (item (text (codes "h710")) (item (text (codes "h711")) (item (text (codes "h712")) (item (text (codes "h713")) (item (text (codes "h714")) (item (text (codes "h715")) (item (text (codes "h716")) (item (text (codes "h717")) (item (text (codes "h718")) (item (text (codes "h719")) (item (text (codes "h720")) (item (text (codes "h721")) (item (text (codes "h722")) (item (text (codes "h723")) (item (text (codes "h724")) (item (text (codes "h725")) (item (text (codes "h726")) (item (text (codes "h727")) (item (text (codes "h728")) (item (text (codes "h729")) (item (text (codes "h730")) (item (text (codes "h731")) (item (text (codes "h732")) (item (text (codes "h733")) (item (text (codes "h734")) (item (text (codes "h735")) (item (text (codes "h736")) (item (text (codes "h737")) (item (text (codes "h738")) (item (text (codes "h739")) (item (text (codes "h740")) (item (text (codes "h741")) (item (text (codes "h742")) (item (text (codes "h743")) (item (text (codes "h744")) (item (text (codes "h745")) (item (text (codes "h746")) (item (text (codes "h747")) (item (text (codes "h748")) (item (text (codes "h749")) (item (text (codes "h750")) (item (text (codes "h751")) (item (text (codes "h752")) (item (text (codes "h753")) (item (text (codes "h754")) (item (text (codes "h755")) (item (text (codes "h756")) (item (text (codes "h757")) (item (text (codes "h758")) (item (text (codes "h759")) (item (text (codes "h760")) (item (text (codes "h761")) (item (text (codes "h762")) (item (text (codes "h763")) (item (text (codes "h764")) (item (text (codes "h765")) (item (text (codes "h766")) (item (text (codes "h767")) (item (text (codes "h768")) (item (text (codes "h769")) (item (text (codes "h770")) (item (text (codes "h771")) (item (text (codes "h772")) (item (text (codes "h773")) (item (text (codes "h774")) (item (text (codes "h775")) (item (text (codes "h776")) (item (text (codes "h777")) (item (text (codes "h778")) (item (text (codes "h779")) (item (text (codes "h780")) (item (text (codes "h781")) (item (text (codes "h782")) (item (text (codes "h783")) (item (text (codes "h784")) (item (text (codes "h785")) (item (text (codes "h786")) (item (text (codes "h787")) (item (text (codes "h788")) (item (text (codes "h789")) (item (text (codes "h790")) (item (text (codes "h791")) (item (text (codes "h792")) (item (text (codes "h793")) (item (text (codes "h794")) (item (text (codes "h795")) (item (text (codes "h796")) (item (text (codes "h797")) (item (text (codes "h798")) (item (text (codes "h799")) (item (text (codes "h800")) (item (text (codes "h801")) (item (text (codes "h802")) (item (text (codes "h803")) (item (text (codes "h804")) (item (text (codes "h805")) (item (text (codes "h806")) (item (text (codes "h807")) (item (text (codes "h808")) (item (text (codes "h809")) (item (text (codes "h810")) (item (text (codes "h811")) (item (text (codes "h812")) (item (text (codes "h813")) (item (text (codes "h814")) (item (text (codes "h815")) (item (text (codes "h816")) (item (text (codes "h817")) (item (text (codes "h818")) (item (text (codes "h819")) (item (text (codes "h820")) (item (text (codes "h821")) (item (text (codes "h822")) (item (text (codes "h823")) (item (text (codes "h824")) (item (text (codes "h825")) (item (text (codes "h826")) (item (text (codes "h827")) (item (text (codes "h828")) (item (text (codes "h829")) (item (text (codes "h830")) (item (text (codes "h831")) (item (text (codes "h832")) (item (text (codes "h833")) (item (text (codes "h834")) (item (text (codes "h835")) (item (text (codes "h836")) (item (text (codes "h837")) (item (text (codes "h838")) (item (text (codes "h839")) (item (text (codes "h840")) (item (text (codes "h841")) (item (text (codes "h842")) (item (text (codes "h843")) (item (text (codes "h844")) (item (text (codes "h845")) (item (text (codes "h846")) (item (text (codes "h847")) (item (text (codes "h848")) (item (text (codes "h849")) (item (text (codes "h850")) (item (text (codes "h851")) (item (text (codes "h852")) (item (text (codes "h853")) (item (text (codes "h854")) (item (text (codes "h855")) (item (text (codes "h856")) (item (text (codes "h857")) (item (text (codes "h858")) (item (text (codes "h859")) (item (text (codes "h860")) (item (text (codes "h861")) (item (text (codes "h862")) (item (text (codes "h863")) (item (text (codes "h864")) (item (text (codes "h865")) (item (text (codes "h866")) (item (text (codes "h867")) (item (text (codes "h868")) (item (text (codes "h869")) (item (text (codes "h870")) (item (text (codes "h871")) (item (text (codes "h872")) (item (text (codes "h873")) (item (text (codes "h874")) (item (text (codes "h875")) (item (text (codes "h876")) (item (text (codes "h877")) (item (text (codes "h878")) (item (text (codes "h879")) (item (text (codes "h880")) (item (text (codes "h881")) (item (text (codes "h882")) (item (text (codes "h883")) (item (text (codes "h884")) (item (text (codes "h885")) (item (text (codes "h886")) (item (text (codes "h887")) (item (text (codes "h888")) (item (text (codes "h889")) (item (text (codes "h890")) (item (text (codes "h891")) (item (text (codes "h892")) (item (text (codes "h893")) (item (text (codes "h894")) (item (text (codes "h895")) (item (text (codes "h896")) (item (text (codes "h897")) (item (text (codes "h898")) (item (text (codes "h899")) (item (text (codes "h900")) (item (text (codes "h901")) (item (text (codes "h902")) (item (text (codes "h903")) (item (text (codes "h904")) (item (text (codes "h905")) (item (text (codes "h906")) (item (text (codes "h907")) (item (text (codes "h908")) (item (text (codes "h909")) (item (text (codes "h910")) (item (text (codes "h911")) (item (text (codes "h912")) (item (text (codes "h913")) (item (text (codes "h914")) (item (text (codes "h915")) (item (text (codes "h916")) (item (text (codes "h917")) (item (text (codes "h918")) (item (text (codes "h919")) (item (text (codes "h920")) (item (text (codes "h921")) (item (text (codes "h922")) (item (text (codes "h923")) (item (text (codes "h924")) (item (text (codes "h925")) (item (text (codes "h926")) (item (text (codes "h927")) (item (text (codes "h928")) (item (text (codes "h929")) (item (text (codes "h930")) (item (text (codes "h931")) (item (text (codes "h932")) (item (text (codes "h933")) (item (text (codes "h934")) (item (text (codes "h935")) (item (text (codes "h936")) (item (text (codes "h937")) (item (text (codes "h938")) (item (text (codes "h939")) (item (text (codes "h940")) (item (text (codes "h941")) (item (text (codes "h942")) (item (text (codes "h943")) (item (text (codes "h944")) (item (text (codes "h945")) (item (text (codes "h946")) (item (text (codes "h947")) (item (text (codes "h948")) (item (text (codes "h949")) (item (text (codes "h950")) (item (text (codes "h951")) (item (text (codes "h952")) (item (text (codes "h953")) (item (text (codes "h954")) (item (text (codes "h955")) (item (text (codes "h956")) (item (text (codes "h957")) (item (text (codes "h958")) (item (text (codes "h959")) (item (text (codes "h960")) (item (text (codes "h961")) (item (text (codes "h962")) (item (text (codes "h963")) (item (text (codes "h964")) (item (text (codes "h965")) (item (text (codes "h966")) (item (text (codes "h967")) (item (text (codes "h968")) (item (text (codes "h969")) (item (text (codes "h970")) (item (text (codes "h971")) (item (text (codes "h972")) (item (text (codes "h973")) (item (text (codes "h974")) (item (text (codes "h975")) (item (text (codes "h976")) (item (text (codes "h977")) (item (text (codes "h978")) (item (text (codes "h979")) (item (text (codes "h980")) (item (text (codes "h981")) (item (text (codes "h982")) (item (text (codes "h983")) (item (text (codes "h984")) (item (text (codes "h985")) (item (text (codes "h986")) (item (text (codes "h987")) (item (text (codes "h988")) (item (text (codes "h989")) (item (text (codes "h990")) (item (text (codes "h991")) (item (text (codes "h992")) (item (text (codes "h993")) (item (text (codes "h994")) (item (text (codes "h995")) (item (text (codes "h996")) (item (text (codes "h997")) (item (text (codes "h998")) (item (text (codes "h999")) (item (text (codes "h1000")) (item (text (codes "h1001")) (item (text (codes "h1002")) (item (text (codes "h1003")) (item (text (codes "h1004")) (item (text (codes "h1005")) (item (text (codes "h1006")) (item (text (codes "h1007")) (item (text (codes "h1008")) (item (text (codes "h1009")) (item (text (codes "h1010")) (item (text (codes "h1011")) (item (text (codes "h1012")) (item (text (codes "h1013")) (item (text (codes "h1014")) (item (text (codes "h1015")) (item (text (codes "h1016")) (item (text (codes "h1017")) (item (text (codes "h1018")) (item (text (codes "h1019")) (item (text (codes "h1020")) (item (text (codes "h1021")) (item (text (codes "h1022")) (item (text (codes "h1023")) (item (text (codes "h1024")) (no_items))))))))))))))))))))))))))))))))))))))))))))))))))))))))))))))))))))))))))))))))))))))))))))))))))))))))))))))))))))))))))))))))))))))))))))))))))))))))))))))))))))))))))))))))))))))))))))))))))))))))))))))))))))))))))))))))))))))))))))))))))))))))))))))))))))))))))))))))))))))))))))))))))))))))))))))))))))))))))))))))))))))))))))))))))))))))))))))))))))))))))))))))))))))))))))))))))))))))))))))))))))))))))))))))))))))))))))))))))))))))))))))))))))))))))))))))))))))))))))))))))))))))))))))))))))))))))))))))))))))))))))))))))))))))))))))))))))))))))))))))))))))))))))))))))))))))))))))))))))))))))))))))))))))))))))))))))))))))))))))))))))))))))))))))))))))))))))))))))))))))))))))))))))))))))))))))))))))))))))))))))))))))))))))))))))))))))))))))))))))))))))))))))))))))))))))))))))))))))))))))))))))))))))))))))))))))))))))))))))))))))))))))))))))))))))))))))))))))))))))))))))))))))))))))))))))))))))))))))))))))))))))))))))))))))))))))))))))))))))))))))))))))))))))))))))))))))))))))))))))))))))))))))))))))))))))))))) (no_fields))) (no_fields))) ≡ Err over_limit
inventory_483 = refl

inventory_484 : inventory_from (rec (field (codes "all") (rec (field (codes "hosts") (list (item (text (codes "h0")) (item (text (codes "h1")) (item (text (codes "h2")) (item (text (codes "h3")) (item (text (codes "h4")) (item (text (codes "h5")) (item (text (codes "h6")) (item (text (codes "h7")) (item (text (codes "h8")) (item (text (codes "h9")) (item (text (codes "h10")) (item (text (codes "h11")) (item (text (codes "h12")) (item (text (codes "h13")) (item (text (codes "h14")) (item (text (codes "h15")) (item (text (codes "h16")) (item (text (codes "h17")) (item (text (codes "h18")) (item (text (codes "h19")) (item (text (codes "h20")) (item (text (codes "h21")) (item (text (codes "h22")) (item (text (codes "h23")) (item (text (codes "h24")) (item (text (codes "h25")) (item (text (codes "h26")) (item (text (codes "h27")) (item (text (codes "h28")) (item (text (codes "h29")) (item (text (codes "h30")) (item (text (codes "h31")) (item (text (codes "h32")) (item (text (codes "h33")) (item (text (codes "h34")) (item (text (codes "h35")) (item (text (codes "h36")) (item (text (codes "h37")) (item (text (codes "h38")) (item (text (codes "h39")) (item (text (codes "h40")) (item (text (codes "h41")) (item (text (codes "h42")) (item (text (codes "h43")) (item (text (codes "h44")) (item (text (codes "h45")) (item (text (codes "h46")) (item (text (codes "h47")) (item (text (codes "h48")) (item (text (codes "h49")) (item (text (codes "h50")) (item (text (codes "h51")) (item (text (codes "h52")) (item (text (codes "h53")) (item (text (codes "h54")) (item (text (codes "h55")) (item (text (codes "h56")) (item (text (codes "h57")) (item (text (codes "h58")) (item (text (codes "h59")) (item (text (codes "h60")) (item (text (codes "h61")) (item (text (codes "h62")) (item (text (codes "h63")) (item (text (codes "h64")) (item (text (codes "h65")) (item (text (codes "h66")) (item (text (codes "h67")) (item (text (codes "h68")) (item (text (codes "h69")) (item (text (codes "h70")) (item (text (codes "h71")) (item (text (codes "h72")) (item (text (codes "h73")) (item (text (codes "h74")) (item (text (codes "h75")) (item (text (codes "h76")) (item (text (codes "h77")) (item (text (codes "h78")) (item (text (codes "h79")) (item (text (codes "h80")) (item (text (codes "h81")) (item (text (codes "h82")) (item (text (codes "h83")) (item (text (codes "h84")) (item (text (codes "h85")) (item (text (codes "h86")) (item (text (codes "h87")) (item (text (codes "h88")) (item (text (codes "h89")) (item (text (codes "h90")) (item (text (codes "h91")) (item (text (codes "h92")) (item (text (codes "h93")) (item (text (codes "h94")) (item (text (codes "h95")) (item (text (codes "h96")) (item (text (codes "h97")) (item (text (codes "h98")) (item (text (codes "h99")) (item (text (codes "h100")) (item (text (codes "h101")) (item (text (codes "h102")) (item (text (codes "h103")) (item (text (codes "h104")) (item (text (codes "h105")) (item (text (codes "h106")) (item (text (codes "h107")) (item (text (codes "h108")) (item (text (codes "h109")) (item (text (codes "h110")) (item (text (codes "h111")) (item (text (codes "h112")) (item (text (codes "h113")) (item (text (codes "h114")) (item (text (codes "h115")) (item (text (codes "h116")) (item (text (codes "h117")) (item (text (codes "h118")) (item (text (codes "h119")) (item (text (codes "h120")) (item (text (codes "h121")) (item (text (codes "h122")) (item (text (codes "h123")) (item (text (codes "h124")) (item (text (codes "h125")) (item (text (codes "h126")) (item (text (codes "h127")) (item (text (codes "h128")) (item (text (codes "h129")) (item (text (codes "h130")) (item (text (codes "h131")) (item (text (codes "h132")) (item (text (codes "h133")) (item (text (codes "h134")) (item (text (codes "h135")) (item (text (codes "h136")) (item (text (codes "h137")) (item (text (codes "h138")) (item (text (codes "h139")) (item (text (codes "h140")) (item (text (codes "h141")) (item (text (codes "h142")) (item (text (codes "h143")) (item (text (codes "h144")) (item (text (codes "h145")) (item (text (codes "h146")) (item (text (codes "h147")) (item (text (codes "h148")) (item (text (codes "h149")) (item (text (codes "h150")) (item (text (codes "h151")) (item (text (codes "h152")) (item (text (codes "h153")) (item (text (codes "h154")) (item (text (codes "h155")) (item (text (codes "h156")) (item (text (codes "h157")) (item (text (codes "h158")) (item (text (codes "h159")) (item (text (codes "h160")) (item (text (codes "h161")) (item (text (codes "h162")) (item (text (codes "h163")) (item (text (codes "h164")) (item (text (codes "h165")) (item (text (codes "h166")) (item (text (codes "h167")) (item (text (codes "h168")) (item (text (codes "h169")) (item (text (codes "h170")) (item (text (codes "h171")) (item (text (codes "h172")) (item (text (codes "h173")) (item (text (codes "h174")) (item (text (codes "h175")) (item (text (codes "h176")) (item (text (codes "h177")) (item (text (codes "h178")) (item (text (codes "h179")) (item (text (codes "h180")) (item (text (codes "h181")) (item (text (codes "h182")) (item (text (codes "h183")) (item (text (codes "h184")) (item (text (codes "h185")) (item (text (codes "h186")) (item (text (codes "h187")) (item (text (codes "h188")) (item (text (codes "h189")) (item (text (codes "h190")) (item (text (codes "h191")) (item (text (codes "h192")) (item (text (codes "h193")) (item (text (codes "h194")) (item (text (codes "h195")) (item (text (codes "h196")) (item (text (codes "h197")) (item (text (codes "h198")) (item (text (codes "h199")) (item (text (codes "h200")) (item (text (codes "h201")) (item (text (codes "h202")) (item (text (codes "h203")) (item (text (codes "h204")) (item (text (codes "h205")) (item (text (codes "h206")) (item (text (codes "h207")) (item (text (codes "h208")) (item (text (codes "h209")) (item (text (codes "h210")) (item (text (codes "h211")) (item (text (codes "h212")) (item (text (codes "h213")) (item (text (codes "h214")) (item (text (codes "h215")) (item (text (codes "h216")) (item (text (codes "h217")) (item (text (codes "h218")) (item (text (codes "h219")) (item (text (codes "h220")) (item (text (codes "h221")) (item (text (codes "h222")) (item (text (codes "h223")) (item (text (codes "h224")) (item (text (codes "h225")) (item (text (codes "h226")) (item (text (codes "h227")) (item (text (codes "h228")) (item (text (codes "h229")) (item (text (codes "h230")) (item (text (codes "h231")) (item (text (codes "h232")) (item (text (codes "h233")) (item (text (codes "h234")) (item (text (codes "h235")) (item (text (codes "h236")) (item (text (codes "h237")) (item (text (codes "h238")) (item (text (codes "h239")) (item (text (codes "h240")) (item (text (codes "h241")) (item (text (codes "h242")) (item (text (codes "h243")) (item (text (codes "h244")) (item (text (codes "h245")) (item (text (codes "h246")) (item (text (codes "h247")) (item (text (codes "h248")) (item (text (codes "h249")) (item (text (codes "h250")) (item (text (codes "h251")) (item (text (codes "h252")) (item (text (codes "h253")) (item (text (codes "h254")) (item (text (codes "h255")) (item (text (codes "h256")) (item (text (codes "h257")) (item (text (codes "h258")) (item (text (codes "h259")) (item (text (codes "h260")) (item (text (codes "h261")) (item (text (codes "h262")) (item (text (codes "h263")) (item (text (codes "h264")) (item (text (codes "h265")) (item (text (codes "h266")) (item (text (codes "h267")) (item (text (codes "h268")) (item (text (codes "h269")) (item (text (codes "h270")) (item (text (codes "h271")) (item (text (codes "h272")) (item (text (codes "h273")) (item (text (codes "h274")) (item (text (codes "h275")) (item (text (codes "h276")) (item (text (codes "h277")) (item (text (codes "h278")) (item (text (codes "h279")) (item (text (codes "h280")) (item (text (codes "h281")) (item (text (codes "h282")) (item (text (codes "h283")) (item (text (codes "h284")) (item (text (codes "h285")) (item (text (codes "h286")) (item (text (codes "h287")) (item (text (codes "h288")) (item (text (codes "h289")) (item (text (codes "h290")) (item (text (codes "h291")) (item (text (codes "h292")) (item (text (codes "h293")) (item (text (codes "h294")) (item (text (codes "h295")) (item (text (codes "h296")) (item (text (codes "h297")) (item (text (codes "h298")) (item (text (codes "h299")) (item (text (codes "h300")) (item (text (codes "h301")) (item (text (codes "h302")) (item (text (codes "h303")) (item (text (codes "h304")) (item (text (codes "h305")) (item (text (codes "h306")) (item (text (codes "h307")) (item (text (codes "h308")) (item (text (codes "h309")) (item (text (codes "h310")) (item (text (codes "h311")) (item (text (codes "h312")) (item (text (codes "h313")) (item (text (codes "h314")) (item (text (codes "h315")) (item (text (codes "h316")) (item (text (codes "h317")) (item (text (codes "h318")) (item (text (codes "h319")) (item (text (codes "h320")) (item (text (codes "h321")) (item (text (codes "h322")) (item (text (codes "h323")) (item (text (codes "h324")) (item (text (codes "h325")) (item (text (codes "h326")) (item (text (codes "h327")) (item (text (codes "h328")) (item (text (codes "h329")) (item (text (codes "h330")) (item (text (codes "h331")) (item (text (codes "h332")) (item (text (codes "h333")) (item (text (codes "h334")) (item (text (codes "h335")) (item (text (codes "h336")) (item (text (codes "h337")) (item (text (codes "h338")) (item (text (codes "h339")) (item (text (codes "h340")) (item (text (codes "h341")) (item (text (codes "h342")) (item (text (codes "h343")) (item (text (codes "h344")) (item (text (codes "h345")) (item (text (codes "h346")) (item (text (codes "h347")) (item (text (codes "h348")) (item (text (codes "h349")) (item (text (codes "h350")) (item (text (codes "h351")) (item (text (codes "h352")) (item (text (codes "h353")) (item (text (codes "h354")) (item (text (codes "h355")) (item (text (codes "h356")) (item (text (codes "h357")) (item (text (codes "h358")) (item (text (codes "h359")) (item (text (codes "h360")) (item (text (codes "h361")) (item (text (codes "h362")) (item (text (codes "h363")) (item (text (codes "h364")) (item (text (codes "h365")) (item (text (codes "h366")) (item (text (codes "h367")) (item (text (codes "h368")) (item (text (codes "h369")) (item (text (codes "h370")) (item (text (codes "h371")) (item (text (codes "h372")) (item (text (codes "h373")) (item (text (codes "h374")) (item (text (codes "h375")) (item (text (codes "h376")) (item (text (codes "h377")) (item (text (codes "h378")) (item (text (codes "h379")) (item (text (codes "h380")) (item (text (codes "h381")) (item (text (codes "h382")) (item (text (codes "h383")) (item (text (codes "h384")) (item (text (codes "h385")) (item (text (codes "h386")) (item (text (codes "h387")) (item (text (codes "h388")) (item (text (codes "h389")) (item (text (codes "h390")) (item (text (codes "h391")) (item (text (codes "h392")) (item (text (codes "h393")) (item (text (codes "h394")) (item (text (codes "h395")) (item (text (codes "h396")) (item (text (codes "h397")) (item (text (codes "h398")) (item (text (codes "h399")) (item (text (codes "h400")) (item (text (codes "h401")) (item (text (codes "h402")) (item (text (codes "h403")) (item (text (codes "h404")) (item (text (codes "h405")) (item (text (codes "h406")) (item (text (codes "h407")) (item (text (codes "h408")) (item (text (codes "h409")) (item (text (codes "h410")) (item (text (codes "h411")) (item (text (codes "h412")) (item (text (codes "h413")) (item (text (codes "h414")) (item (text (codes "h415")) (item (text (codes "h416")) (item (text (codes "h417")) (item (text (codes "h418")) (item (text (codes "h419")) (item (text (codes "h420")) (item (text (codes "h421")) (item (text (codes "h422")) (item (text (codes "h423")) (item (text (codes "h424")) (item (text (codes "h425")) (item (text (codes "h426")) (item (text (codes "h427")) (item (text (codes "h428")) (item (text (codes "h429")) (item (text (codes "h430")) (item (text (codes "h431")) (item (text (codes "h432")) (item (text (codes "h433")) (item (text (codes "h434")) (item (text (codes "h435")) (item (text (codes "h436")) (item (text (codes "h437")) (item (text (codes "h438")) (item (text (codes "h439")) (item (text (codes "h440")) (item (text (codes "h441")) (item (text (codes "h442")) (item (text (codes "h443")) (item (text (codes "h444")) (item (text (codes "h445")) (item (text (codes "h446")) (item (text (codes "h447")) (item (text (codes "h448")) (item (text (codes "h449")) (item (text (codes "h450")) (item (text (codes "h451")) (item (text (codes "h452")) (item (text (codes "h453")) (item (text (codes "h454")) (item (text (codes "h455")) (item (text (codes "h456")) (item (text (codes "h457")) (item (text (codes "h458")) (item (text (codes "h459")) (item (text (codes "h460")) (item (text (codes "h461")) (item (text (codes "h462")) (item (text (codes "h463")) (item (text (codes "h464")) (item (text (codes "h465")) (item (text (codes "h466")) (item (text (codes "h467")) (item (text (codes "h468")) (item (text (codes "h469")) (item (text (codes "h470")) (item (text (codes "h471")) (item (text (codes "h472")) (item (text (codes "h473")) (item (text (codes "h474")) (item (text (codes "h475")) (item (text (codes "h476")) (item (text (codes "h477")) (item (text (codes "h478")) (item (text (codes "h479")) (item (text (codes "h480")) (item (text (codes "h481")) (item (text (codes "h482")) (item (text (codes "h483")) (item (text (codes "h484")) (item (text (codes "h485")) (item (text (codes "h486")) (item (text (codes "h487")) (item (text (codes "h488")) (item (text (codes "h489")) (item (text (codes "h490")) (item (text (codes "h491")) (item (text (codes "h492")) (item (text (codes "h493")) (item (text (codes "h494")) (item (text (codes "h495")) (item (text (codes "h496")) (item (text (codes "h497")) (item (text (codes "h498")) (item (text (codes "h499")) (item (text (codes "h500")) (item (text (codes "h501")) (item (text (codes "h502")) (item (text (codes "h503")) (item (text (codes "h504")) (item (text (codes "h505")) (item (text (codes "h506")) (item (text (codes "h507")) (item (text (codes "h508")) (item (text (codes "h509")) (item (text (codes "h510")) (item (text (codes "h511")) (item (text (codes "h512")) (item (text (codes "h513")) (item (text (codes "h514")) (item (text (codes "h515")) (item (text (codes "h516")) (item (text (codes "h517")) (item (text (codes "h518")) (item (text (codes "h519")) (item (text (codes "h520")) (item (text (codes "h521")) (item (text (codes "h522")) (item (text (codes "h523")) (item (text (codes "h524")) (item (text (codes "h525")) (item (text (codes "h526")) (item (text (codes "h527")) (item (text (codes "h528")) (item (text (codes "h529")) (item (text (codes "h530")) (item (text (codes "h531")) (item (text (codes "h532")) (item (text (codes "h533")) (item (text (codes "h534")) (item (text (codes "h535")) (item (text (codes "h536")) (item (text (codes "h537")) (item (text (codes "h538")) (item (text (codes "h539")) (item (text (codes "h540")) (item (text (codes "h541")) (item (text (codes "h542")) (item (text (codes "h543")) (item (text (codes "h544")) (item (text (codes "h545")) (item (text (codes "h546")) (item (text (codes "h547")) (item (text (codes "h548")) (item (text (codes "h549")) (item (text (codes "h550")) (item (text (codes "h551")) (item (text (codes "h552")) (item (text (codes "h553")) (item (text (codes "h554")) (item (text (codes "h555")) (item (text (codes "h556")) (item (text (codes "h557")) (item (text (codes "h558")) (item (text (codes "h559")) (item (text (codes "h560")) (item (text (codes "h561")) (item (text (codes "h562")) (item (text (codes "h563")) (item (text (codes "h564")) (item (text (codes "h565")) (item (text (codes "h566")) (item (text (codes "h567")) (item (text (codes "h568")) (item (text (codes "h569")) (item (text (codes "h570")) (item (text (codes "h571")) (item (text (codes "h572")) (item (text (codes "h573")) (item (text (codes "h574")) (item (text (codes "h575")) (item (text (codes "h576")) (item (text (codes "h577")) (item (text (codes "h578")) (item (text (codes "h579")) (item (text (codes "h580")) (item (text (codes "h581")) (item (text (codes "h582")) (item (text (codes "h583")) (item (text (codes "h584")) (item (text (codes "h585")) (item (text (codes "h586")) (item (text (codes "h587")) (item (text (codes "h588")) (item (text (codes "h589")) (item (text (codes "h590")) (item (text (codes "h591")) (item (text (codes "h592")) (item (text (codes "h593")) (item (text (codes "h594")) (item (text (codes "h595")) (item (text (codes "h596")) (item (text (codes "h597")) (item (text (codes "h598")) (item (text (codes "h599")) (item (text (codes "h600")) (item (text (codes "h601")) (item (text (codes "h602")) (item (text (codes "h603")) (item (text (codes "h604")) (item (text (codes "h605")) (item (text (codes "h606")) (item (text (codes "h607")) (item (text (codes "h608")) (item (text (codes "h609")) (item (text (codes "h610")) (item (text (codes "h611")) (item (text (codes "h612")) (item (text (codes "h613")) (item (text (codes "h614")) (item (text (codes "h615")) (item (text (codes "h616")) (item (text (codes "h617")) (item (text (codes "h618")) (item (text (codes "h619")) (item (text (codes "h620")) (item (text (codes "h621")) (item (text (codes "h622")) (item (text (codes "h623")) (item (text (codes "h624")) (item (text (codes "h625")) (item (text (codes "h626")) (item (text (codes "h627")) (item (text (codes "h628")) (item (text (codes "h629")) (item (text (codes "h630")) (item (text (codes "h631")) (item (text (codes "h632")) (item (text (codes "h633")) (item (text (codes "h634")) (item (text (codes "h635")) (item (text (codes "h636")) (item (text (codes "h637")) (item (text (codes "h638")) (item (text (codes "h639")) (item (text (codes "h640")) (item (text (codes "h641")) (item (text (codes "h642")) (item (text (codes "h643")) (item (text (codes "h644")) (item (text (codes "h645")) (item (text (codes "h646")) (item (text (codes "h647")) (item (text (codes "h648")) (item (text (codes "h649")) (item (text (codes "h650")) (item (text (codes "h651")) (item (text (codes "h652")) (item (text (codes "h653")) (item (text (codes "h654")) (item (text (codes "h655")) (item (text (codes "h656")) (item (text (codes "h657")) (item (text (codes "h658")) (item (text (codes "h659")) (item (text (codes "h660")) (item (text (codes "h661")) (item (text (codes "h662")) (item (text (codes "h663")) (item (text (codes "h664")) (item (text (codes "h665")) (item (text (codes "h666")) (item (text (codes "h667")) (item (text (codes "h668")) (item (text (codes "h669")) (item (text (codes "h670")) (item (text (codes "h671")) (item (text (codes "h672")) (item (text (codes "h673")) (item (text (codes "h674")) (item (text (codes "h675")) (item (text (codes "h676")) (item (text (codes "h677")) (item (text (codes "h678")) (item (text (codes "h679")) (item (text (codes "h680")) (item (text (codes "h681")) (item (text (codes "h682")) (item (text (codes "h683")) (item (text (codes "h684")) (item (text (codes "h685")) (item (text (codes "h686")) (item (text (codes "h687")) (item (text (codes "h688")) (item (text (codes "h689")) (item (text (codes "h690")) (item (text (codes "h691")) (item (text (codes "h692")) (item (text (codes "h693")) (item (text (codes "h694")) (item (text (codes "h695")) (item (text (codes "h696")) (item (text (codes "h697")) (item (text (codes "h698")) (item (text (codes "h699")) (item (text (codes "h700")) (item (text (codes "h701")) (item (text (codes "h702")) (item (text (codes "h703")) (item (text (codes "h704")) (item (text (codes "h705")) (item (text (codes "h706")) (item (text (codes "h707")) (item (text (codes "h708")) (item (text (codes "h709")) (item (text (codes "h710")) (item (text (codes "h711")) (item (text (codes "h712")) (item (text (codes "h713")) (item (text (codes "h714")) (item (text (codes "h715")) (item (text (codes "h716")) (item (text (codes "h717")) (item (text (codes "h718")) (item (text (codes "h719")) (item (text (codes "h720")) (item (text (codes "h721")) (item (text (codes "h722")) (item (text (codes "h723")) (item (text (codes "h724")) (item (text (codes "h725")) (item (text (codes "h726")) (item (text (codes "h727")) (item (text (codes "h728")) (item (text (codes "h729")) (item (text (codes "h730")) (item (text (codes "h731")) (item (text (codes "h732")) (item (text (codes "h733")) (item (text (codes "h734")) (item (text (codes "h735")) (item (text (codes "h736")) (item (text (codes "h737")) (item (text (codes "h738")) (item (text (codes "h739")) (item (text (codes "h740")) (item (text (codes "h741")) (item (text (codes "h742")) (item (text (codes "h743")) (item (text (codes "h744")) (item (text (codes "h745")) (item (text (codes "h746")) (item (text (codes "h747")) (item (text (codes "h748")) (item (text (codes "h749")) (item (text (codes "h750")) (item (text (codes "h751")) (item (text (codes "h752")) (item (text (codes "h753")) (item (text (codes "h754")) (item (text (codes "h755")) (item (text (codes "h756")) (item (text (codes "h757")) (item (text (codes "h758")) (item (text (codes "h759")) (item (text (codes "h760")) (item (text (codes "h761")) (item (text (codes "h762")) (item (text (codes "h763")) (item (text (codes "h764")) (item (text (codes "h765")) (item (text (codes "h766")) (item (text (codes "h767")) (item (text (codes "h768")) (item (text (codes "h769")) (item (text (codes "h770")) (item (text (codes "h771")) (item (text (codes "h772")) (item (text (codes "h773")) (item (text (codes "h774")) (item (text (codes "h775")) (item (text (codes "h776")) (item (text (codes "h777")) (item (text (codes "h778")) (item (text (codes "h779")) (item (text (codes "h780")) (item (text (codes "h781")) (item (text (codes "h782")) (item (text (codes "h783")) (item (text (codes "h784")) (item (text (codes "h785")) (item (text (codes "h786")) (item (text (codes "h787")) (item (text (codes "h788")) (item (text (codes "h789")) (item (text (codes "h790")) (item (text (codes "h791")) (item (text (codes "h792")) (item (text (codes "h793")) (item (text (codes "h794")) (item (text (codes "h795")) (item (text (codes "h796")) (item (text (codes "h797")) (item (text (codes "h798")) (item (text (codes "h799")) (item (text (codes "h800")) (item (text (codes "h801")) (item (text (codes "h802")) (item (text (codes "h803")) (item (text (codes "h804")) (item (text (codes "h805")) (item (text (codes "h806")) (item (text (codes "h807")) (item (text (codes "h808")) (item (text (codes "h809")) (item (text (codes "h810")) (item (text (codes "h811")) (item (text (codes "h812")) (item (text (codes "h813")) (item (text (codes "h814")) (item (text (codes "h815")) (item (text (codes "h816")) (item (text (codes "h817")) (item (text (codes "h818")) (item (text (codes "h819")) (item (text (codes "h820")) (item (text (codes "h821")) (item (text (codes "h822")) (item (text (codes "h823")) (item (text (codes "h824")) (item (text (codes "h825")) (item (text (codes "h826")) (item (text (codes "h827")) (item (text (codes "h828")) (item (text (codes "h829")) (item (text (codes "h830")) (item (text (codes "h831")) (item (text (codes "h832")) (item (text (codes "h833")) (item (text (codes "h834")) (item (text (codes "h835")) (item (text (codes "h836")) (item (text (codes "h837")) (item (text (codes "h838")) (item (text (codes "h839")) (item (text (codes "h840")) (item (text (codes "h841")) (item (text (codes "h842")) (item (text (codes "h843")) (item (text (codes "h844")) (item (text (codes "h845")) (item (text (codes "h846")) (item (text (codes "h847")) (item (text (codes "h848")) (item (text (codes "h849")) (item (text (codes "h850")) (item (text (codes "h851")) (item (text (codes "h852")) (item (text (codes "h853")) (item (text (codes "h854")) (item (text (codes "h855")) (item (text (codes "h856")) (item (text (codes "h857")) (item (text (codes "h858")) (item (text (codes "h859")) (item (text (codes "h860")) (item (text (codes "h861")) (item (text (codes "h862")) (item (text (codes "h863")) (item (text (codes "h864")) (item (text (codes "h865")) (item (text (codes "h866")) (item (text (codes "h867")) (item (text (codes "h868")) (item (text (codes "h869")) (item (text (codes "h870")) (item (text (codes "h871")) (item (text (codes "h872")) (item (text (codes "h873")) (item (text (codes "h874")) (item (text (codes "h875")) (item (text (codes "h876")) (item (text (codes "h877")) (item (text (codes "h878")) (item (text (codes "h879")) (item (text (codes "h880")) (item (text (codes "h881")) (item (text (codes "h882")) (item (text (codes "h883")) (item (text (codes "h884")) (item (text (codes "h885")) (item (text (codes "h886")) (item (text (codes "h887")) (item (text (codes "h888")) (item (text (codes "h889")) (item (text (codes "h890")) (item (text (codes "h891")) (item (text (codes "h892")) (item (text (codes "h893")) (item (text (codes "h894")) (item (text (codes "h895")) (item (text (codes "h896")) (item (text (codes "h897")) (item (text (codes "h898")) (item (text (codes "h899")) (item (text (codes "h900")) (item (text (codes "h901")) (item (text (codes "h902")) (item (text (codes "h903")) (item (text (codes "h904")) (item (text (codes "h905")) (item (text (codes "h906")) (item (text (codes "h907")) (item (text (codes "h908")) (item (text (codes "h909")) (item (text (codes "h910")) (item (text (codes "h911")) (item (text (codes "h912")) (item (text (codes "h913")) (item (text (codes "h914")) (item (text (codes "h915")) (item (text (codes "h916")) (item (text (codes "h917")) (item (text (codes "h918")) (item (text (codes "h919")) (item (text (codes "h920")) (item (text (codes "h921")) (item (text (codes "h922")) (item (text (codes "h923")) (item (text (codes "h924")) (item (text (codes "h925")) (item (text (codes "h926")) (item (text (codes "h927")) (item (text (codes "h928")) (item (text (codes "h929")) (item (text (codes "h930")) (item (text (codes "h931")) (item (text (codes "h932")) (item (text (codes "h933")) (item (text (codes "h934")) (item (text (codes "h935")) (item (text (codes "h936")) (item (text (codes "h937")) (item (text (codes "h938")) (item (text (codes "h939")) (item (text (codes "h940")) (item (text (codes "h941")) (item (text (codes "h942")) (item (text (codes "h943")) (item (text (codes "h944")) (item (text (codes "h945")) (item (text (codes "h946")) (item (text (codes "h947")) (item (text (codes "h948")) (item (text (codes "h949")) (item (text (codes "h950")) (item (text (codes "h951")) (item (text (codes "h952")) (item (text (codes "h953")) (item (text (codes "h954")) (item (text (codes "h955")) (item (text (codes "h956")) (item (text (codes "h957")) (item (text (codes "h958")) (item (text (codes "h959")) (item (text (codes "h960")) (item (text (codes "h961")) (item (text (codes "h962")) (item (text (codes "h963")) (item (text (codes "h964")) (item (text (codes "h965")) (item (text (codes "h966")) (item (text (codes "h967")) (item (text (codes "h968")) (item (text (codes "h969")) (item (text (codes "h970")) (item (text (codes "h971")) (item (text (codes "h972")) (item (text (codes "h973")) (item (text (codes "h974")) (item (text (codes "h975")) (item (text (codes "h976")) (item (text (codes "h977")) (item (text (codes "h978")) (item (text (codes "h979")) (item (text (codes "h980")) (item (text (codes "h981")) (item (text (codes "h982")) (item (text (codes "h983")) (item (text (codes "h984")) (item (text (codes "h985")) (item (text (codes "h986")) (item (text (codes "h987")) (item (text (codes "h988")) (item (text (codes "h989")) (item (text (codes "h990")) (item (text (codes "h991")) (item (text (codes "h992")) (item (text (codes "h993")) (item (text (codes "h994")) (item (text (codes "h995")) (item (text (codes "h996")) (item (text (codes "h997")) (item (text (codes "h998")) (item (text (codes "h999")) (item (text (codes "h1000")) (item (text (codes "h1001")) (item (text (codes "h1002")) (item (text (codes "h1003")) (item (text (codes "h1004")) (item (text (codes "h1005")) (item (text (codes "h1006")) (item (text (codes "h1007")) (item (text (codes "h1008")) (item (text (codes "h1009")) (item (text (codes "h1010")) (item (text (codes "h1011")) (item (text (codes "h1012")) (item (text (codes "h1013")) (item (text (codes "h1014")) (item (text (codes "h1015")) (item (text (codes "h1016")) (item (text (codes "h1017")) (item (text (codes "h1018")) (item (text (codes "h1019")) (item (text (codes "h1020")) (item (text (codes "h1021")) (item (text (codes "h1022")) (item (text (codes "h1023")) (no_items)))))))))))))))))))))))))))))))))))))))))))))))))))))))))))))))))))))))))))))))))))))))))))))))))))))))))))))))))))))))))))))))))))))))))))))))))))))))))))))))))))))))))))))))))))))))))))))))))))))))))))))))))))))))))))))))))))))))))))))))))))))))))))))))))))))))))))))))))))))))))))))))))))))))))))))))))))))))))))))))))))))))))))))))))))))))))))))))))))))))))))))))))))))))))))))))))))))))))))))))))))))))))))))))))))))))))))))))))))))))))))))))))))))))))))))))))))))))))))))))))))))))))))))))))))))))))))))))))))))))))))))))))))))))))))))))))))))))))))))))))))))))))))))))))))))))))))))))))))))))))))))))))))))))))))))))))))))))))))))))))))))))))))))))))))))))))))))))))))))))))))))))))))))))))))))))))))))))))))))))))))))))))))))))))))))))))))))))))))))))))))))))))))))))))))))))))))))))))))))))))))))))))))))))))))))))))))))))))))))))))))))))))))))))))))))))))))))))))))))))))))))))))))))))))))))))))))))))))))))))))))))))))))))))))))))))))))))))))))))))))))))))))))))))))))))))))))))))))))))))))))))))))))))))))))))))))) (no_fields))) (no_fields))) ≡ Ok (record { hosts = (record { name = (codes "h0"); variables = (no_fields) } ∷ record { name = (codes "h1"); variables = (no_fields) } ∷ record { name = (codes "h2"); variables = (no_fields) } ∷ record { name = (codes "h3"); variables = (no_fields) } ∷ record { name = (codes "h4"); variables = (no_fields) } ∷ record { name = (codes "h5"); variables = (no_fields) } ∷ record { name = (codes "h6"); variables = (no_fields) } ∷ record { name = (codes "h7"); variables = (no_fields) } ∷ record { name = (codes "h8"); variables = (no_fields) } ∷ record { name = (codes "h9"); variables = (no_fields) } ∷ record { name = (codes "h10"); variables = (no_fields) } ∷ record { name = (codes "h11"); variables = (no_fields) } ∷ record { name = (codes "h12"); variables = (no_fields) } ∷ record { name = (codes "h13"); variables = (no_fields) } ∷ record { name = (codes "h14"); variables = (no_fields) } ∷ record { name = (codes "h15"); variables = (no_fields) } ∷ record { name = (codes "h16"); variables = (no_fields) } ∷ record { name = (codes "h17"); variables = (no_fields) } ∷ record { name = (codes "h18"); variables = (no_fields) } ∷ record { name = (codes "h19"); variables = (no_fields) } ∷ record { name = (codes "h20"); variables = (no_fields) } ∷ record { name = (codes "h21"); variables = (no_fields) } ∷ record { name = (codes "h22"); variables = (no_fields) } ∷ record { name = (codes "h23"); variables = (no_fields) } ∷ record { name = (codes "h24"); variables = (no_fields) } ∷ record { name = (codes "h25"); variables = (no_fields) } ∷ record { name = (codes "h26"); variables = (no_fields) } ∷ record { name = (codes "h27"); variables = (no_fields) } ∷ record { name = (codes "h28"); variables = (no_fields) } ∷ record { name = (codes "h29"); variables = (no_fields) } ∷ record { name = (codes "h30"); variables = (no_fields) } ∷ record { name = (codes "h31"); variables = (no_fields) } ∷ record { name = (codes "h32"); variables = (no_fields) } ∷ record { name = (codes "h33"); variables = (no_fields) } ∷ record { name = (codes "h34"); variables = (no_fields) } ∷ record { name = (codes "h35"); variables = (no_fields) } ∷ record { name = (codes "h36"); variables = (no_fields) } ∷ record { name = (codes "h37"); variables = (no_fields) } ∷ record { name = (codes "h38"); variables = (no_fields) } ∷ record { name = (codes "h39"); variables = (no_fields) } ∷ record { name = (codes "h40"); variables = (no_fields) } ∷ record { name = (codes "h41"); variables = (no_fields) } ∷ record { name = (codes "h42"); variables = (no_fields) } ∷ record { name = (codes "h43"); variables = (no_fields) } ∷ record { name = (codes "h44"); variables = (no_fields) } ∷ record { name = (codes "h45"); variables = (no_fields) } ∷ record { name = (codes "h46"); variables = (no_fields) } ∷ record { name = (codes "h47"); variables = (no_fields) } ∷ record { name = (codes "h48"); variables = (no_fields) } ∷ record { name = (codes "h49"); variables = (no_fields) } ∷ record { name = (codes "h50"); variables = (no_fields) } ∷ record { name = (codes "h51"); variables = (no_fields) } ∷ record { name = (codes "h52"); variables = (no_fields) } ∷ record { name = (codes "h53"); variables = (no_fields) } ∷ record { name = (codes "h54"); variables = (no_fields) } ∷ record { name = (codes "h55"); variables = (no_fields) } ∷ record { name = (codes "h56"); variables = (no_fields) } ∷ record { name = (codes "h57"); variables = (no_fields) } ∷ record { name = (codes "h58"); variables = (no_fields) } ∷ record { name = (codes "h59"); variables = (no_fields) } ∷ record { name = (codes "h60"); variables = (no_fields) } ∷ record { name = (codes "h61"); variables = (no_fields) } ∷ record { name = (codes "h62"); variables = (no_fields) } ∷ record { name = (codes "h63"); variables = (no_fields) } ∷ record { name = (codes "h64"); variables = (no_fields) } ∷ record { name = (codes "h65"); variables = (no_fields) } ∷ record { name = (codes "h66"); variables = (no_fields) } ∷ record { name = (codes "h67"); variables = (no_fields) } ∷ record { name = (codes "h68"); variables = (no_fields) } ∷ record { name = (codes "h69"); variables = (no_fields) } ∷ record { name = (codes "h70"); variables = (no_fields) } ∷ record { name = (codes "h71"); variables = (no_fields) } ∷ record { name = (codes "h72"); variables = (no_fields) } ∷ record { name = (codes "h73"); variables = (no_fields) } ∷ record { name = (codes "h74"); variables = (no_fields) } ∷ record { name = (codes "h75"); variables = (no_fields) } ∷ record { name = (codes "h76"); variables = (no_fields) } ∷ record { name = (codes "h77"); variables = (no_fields) } ∷ record { name = (codes "h78"); variables = (no_fields) } ∷ record { name = (codes "h79"); variables = (no_fields) } ∷ record { name = (codes "h80"); variables = (no_fields) } ∷ record { name = (codes "h81"); variables = (no_fields) } ∷ record { name = (codes "h82"); variables = (no_fields) } ∷ record { name = (codes "h83"); variables = (no_fields) } ∷ record { name = (codes "h84"); variables = (no_fields) } ∷ record { name = (codes "h85"); variables = (no_fields) } ∷ record { name = (codes "h86"); variables = (no_fields) } ∷ record { name = (codes "h87"); variables = (no_fields) } ∷ record { name = (codes "h88"); variables = (no_fields) } ∷ record { name = (codes "h89"); variables = (no_fields) } ∷ record { name = (codes "h90"); variables = (no_fields) } ∷ record { name = (codes "h91"); variables = (no_fields) } ∷ record { name = (codes "h92"); variables = (no_fields) } ∷ record { name = (codes "h93"); variables = (no_fields) } ∷ record { name = (codes "h94"); variables = (no_fields) } ∷ record { name = (codes "h95"); variables = (no_fields) } ∷ record { name = (codes "h96"); variables = (no_fields) } ∷ record { name = (codes "h97"); variables = (no_fields) } ∷ record { name = (codes "h98"); variables = (no_fields) } ∷ record { name = (codes "h99"); variables = (no_fields) } ∷ record { name = (codes "h100"); variables = (no_fields) } ∷ record { name = (codes "h101"); variables = (no_fields) } ∷ record { name = (codes "h102"); variables = (no_fields) } ∷ record { name = (codes "h103"); variables = (no_fields) } ∷ record { name = (codes "h104"); variables = (no_fields) } ∷ record { name = (codes "h105"); variables = (no_fields) } ∷ record { name = (codes "h106"); variables = (no_fields) } ∷ record { name = (codes "h107"); variables = (no_fields) } ∷ record { name = (codes "h108"); variables = (no_fields) } ∷ record { name = (codes "h109"); variables = (no_fields) } ∷ record { name = (codes "h110"); variables = (no_fields) } ∷ record { name = (codes "h111"); variables = (no_fields) } ∷ record { name = (codes "h112"); variables = (no_fields) } ∷ record { name = (codes "h113"); variables = (no_fields) } ∷ record { name = (codes "h114"); variables = (no_fields) } ∷ record { name = (codes "h115"); variables = (no_fields) } ∷ record { name = (codes "h116"); variables = (no_fields) } ∷ record { name = (codes "h117"); variables = (no_fields) } ∷ record { name = (codes "h118"); variables = (no_fields) } ∷ record { name = (codes "h119"); variables = (no_fields) } ∷ record { name = (codes "h120"); variables = (no_fields) } ∷ record { name = (codes "h121"); variables = (no_fields) } ∷ record { name = (codes "h122"); variables = (no_fields) } ∷ record { name = (codes "h123"); variables = (no_fields) } ∷ record { name = (codes "h124"); variables = (no_fields) } ∷ record { name = (codes "h125"); variables = (no_fields) } ∷ record { name = (codes "h126"); variables = (no_fields) } ∷ record { name = (codes "h127"); variables = (no_fields) } ∷ record { name = (codes "h128"); variables = (no_fields) } ∷ record { name = (codes "h129"); variables = (no_fields) } ∷ record { name = (codes "h130"); variables = (no_fields) } ∷ record { name = (codes "h131"); variables = (no_fields) } ∷ record { name = (codes "h132"); variables = (no_fields) } ∷ record { name = (codes "h133"); variables = (no_fields) } ∷ record { name = (codes "h134"); variables = (no_fields) } ∷ record { name = (codes "h135"); variables = (no_fields) } ∷ record { name = (codes "h136"); variables = (no_fields) } ∷ record { name = (codes "h137"); variables = (no_fields) } ∷ record { name = (codes "h138"); variables = (no_fields) } ∷ record { name = (codes "h139"); variables = (no_fields) } ∷ record { name = (codes "h140"); variables = (no_fields) } ∷ record { name = (codes "h141"); variables = (no_fields) } ∷ record { name = (codes "h142"); variables = (no_fields) } ∷ record { name = (codes "h143"); variables = (no_fields) } ∷ record { name = (codes "h144"); variables = (no_fields) } ∷ record { name = (codes "h145"); variables = (no_fields) } ∷ record { name = (codes "h146"); variables = (no_fields) } ∷ record { name = (codes "h147"); variables = (no_fields) } ∷ record { name = (codes "h148"); variables = (no_fields) } ∷ record { name = (codes "h149"); variables = (no_fields) } ∷ record { name = (codes "h150"); variables = (no_fields) } ∷ record { name = (codes "h151"); variables = (no_fields) } ∷ record { name = (codes "h152"); variables = (no_fields) } ∷ record { name = (codes "h153"); variables = (no_fields) } ∷ record { name = (codes "h154"); variables = (no_fields) } ∷ record { name = (codes "h155"); variables = (no_fields) } ∷ record { name = (codes "h156"); variables = (no_fields) } ∷ record { name = (codes "h157"); variables = (no_fields) } ∷ record { name = (codes "h158"); variables = (no_fields) } ∷ record { name = (codes "h159"); variables = (no_fields) } ∷ record { name = (codes "h160"); variables = (no_fields) } ∷ record { name = (codes "h161"); variables = (no_fields) } ∷ record { name = (codes "h162"); variables = (no_fields) } ∷ record { name = (codes "h163"); variables = (no_fields) } ∷ record { name = (codes "h164"); variables = (no_fields) } ∷ record { name = (codes "h165"); variables = (no_fields) } ∷ record { name = (codes "h166"); variables = (no_fields) } ∷ record { name = (codes "h167"); variables = (no_fields) } ∷ record { name = (codes "h168"); variables = (no_fields) } ∷ record { name = (codes "h169"); variables = (no_fields) } ∷ record { name = (codes "h170"); variables = (no_fields) } ∷ record { name = (codes "h171"); variables = (no_fields) } ∷ record { name = (codes "h172"); variables = (no_fields) } ∷ record { name = (codes "h173"); variables = (no_fields) } ∷ record { name = (codes "h174"); variables = (no_fields) } ∷ record { name = (codes "h175"); variables = (no_fields) } ∷ record { name = (codes "h176"); variables = (no_fields) } ∷ record { name = (codes "h177"); variables = (no_fields) } ∷ record { name = (codes "h178"); variables = (no_fields) } ∷ record { name = (codes "h179"); variables = (no_fields) } ∷ record { name = (codes "h180"); variables = (no_fields) } ∷ record { name = (codes "h181"); variables = (no_fields) } ∷ record { name = (codes "h182"); variables = (no_fields) } ∷ record { name = (codes "h183"); variables = (no_fields) } ∷ record { name = (codes "h184"); variables = (no_fields) } ∷ record { name = (codes "h185"); variables = (no_fields) } ∷ record { name = (codes "h186"); variables = (no_fields) } ∷ record { name = (codes "h187"); variables = (no_fields) } ∷ record { name = (codes "h188"); variables = (no_fields) } ∷ record { name = (codes "h189"); variables = (no_fields) } ∷ record { name = (codes "h190"); variables = (no_fields) } ∷ record { name = (codes "h191"); variables = (no_fields) } ∷ record { name = (codes "h192"); variables = (no_fields) } ∷ record { name = (codes "h193"); variables = (no_fields) } ∷ record { name = (codes "h194"); variables = (no_fields) } ∷ record { name = (codes "h195"); variables = (no_fields) } ∷ record { name = (codes "h196"); variables = (no_fields) } ∷ record { name = (codes "h197"); variables = (no_fields) } ∷ record { name = (codes "h198"); variables = (no_fields) } ∷ record { name = (codes "h199"); variables = (no_fields) } ∷ record { name = (codes "h200"); variables = (no_fields) } ∷ record { name = (codes "h201"); variables = (no_fields) } ∷ record { name = (codes "h202"); variables = (no_fields) } ∷ record { name = (codes "h203"); variables = (no_fields) } ∷ record { name = (codes "h204"); variables = (no_fields) } ∷ record { name = (codes "h205"); variables = (no_fields) } ∷ record { name = (codes "h206"); variables = (no_fields) } ∷ record { name = (codes "h207"); variables = (no_fields) } ∷ record { name = (codes "h208"); variables = (no_fields) } ∷ record { name = (codes "h209"); variables = (no_fields) } ∷ record { name = (codes "h210"); variables = (no_fields) } ∷ record { name = (codes "h211"); variables = (no_fields) } ∷ record { name = (codes "h212"); variables = (no_fields) } ∷ record { name = (codes "h213"); variables = (no_fields) } ∷ record { name = (codes "h214"); variables = (no_fields) } ∷ record { name = (codes "h215"); variables = (no_fields) } ∷ record { name = (codes "h216"); variables = (no_fields) } ∷ record { name = (codes "h217"); variables = (no_fields) } ∷ record { name = (codes "h218"); variables = (no_fields) } ∷ record { name = (codes "h219"); variables = (no_fields) } ∷ record { name = (codes "h220"); variables = (no_fields) } ∷ record { name = (codes "h221"); variables = (no_fields) } ∷ record { name = (codes "h222"); variables = (no_fields) } ∷ record { name = (codes "h223"); variables = (no_fields) } ∷ record { name = (codes "h224"); variables = (no_fields) } ∷ record { name = (codes "h225"); variables = (no_fields) } ∷ record { name = (codes "h226"); variables = (no_fields) } ∷ record { name = (codes "h227"); variables = (no_fields) } ∷ record { name = (codes "h228"); variables = (no_fields) } ∷ record { name = (codes "h229"); variables = (no_fields) } ∷ record { name = (codes "h230"); variables = (no_fields) } ∷ record { name = (codes "h231"); variables = (no_fields) } ∷ record { name = (codes "h232"); variables = (no_fields) } ∷ record { name = (codes "h233"); variables = (no_fields) } ∷ record { name = (codes "h234"); variables = (no_fields) } ∷ record { name = (codes "h235"); variables = (no_fields) } ∷ record { name = (codes "h236"); variables = (no_fields) } ∷ record { name = (codes "h237"); variables = (no_fields) } ∷ record { name = (codes "h238"); variables = (no_fields) } ∷ record { name = (codes "h239"); variables = (no_fields) } ∷ record { name = (codes "h240"); variables = (no_fields) } ∷ record { name = (codes "h241"); variables = (no_fields) } ∷ record { name = (codes "h242"); variables = (no_fields) } ∷ record { name = (codes "h243"); variables = (no_fields) } ∷ record { name = (codes "h244"); variables = (no_fields) } ∷ record { name = (codes "h245"); variables = (no_fields) } ∷ record { name = (codes "h246"); variables = (no_fields) } ∷ record { name = (codes "h247"); variables = (no_fields) } ∷ record { name = (codes "h248"); variables = (no_fields) } ∷ record { name = (codes "h249"); variables = (no_fields) } ∷ record { name = (codes "h250"); variables = (no_fields) } ∷ record { name = (codes "h251"); variables = (no_fields) } ∷ record { name = (codes "h252"); variables = (no_fields) } ∷ record { name = (codes "h253"); variables = (no_fields) } ∷ record { name = (codes "h254"); variables = (no_fields) } ∷ record { name = (codes "h255"); variables = (no_fields) } ∷ record { name = (codes "h256"); variables = (no_fields) } ∷ record { name = (codes "h257"); variables = (no_fields) } ∷ record { name = (codes "h258"); variables = (no_fields) } ∷ record { name = (codes "h259"); variables = (no_fields) } ∷ record { name = (codes "h260"); variables = (no_fields) } ∷ record { name = (codes "h261"); variables = (no_fields) } ∷ record { name = (codes "h262"); variables = (no_fields) } ∷ record { name = (codes "h263"); variables = (no_fields) } ∷ record { name = (codes "h264"); variables = (no_fields) } ∷ record { name = (codes "h265"); variables = (no_fields) } ∷ record { name = (codes "h266"); variables = (no_fields) } ∷ record { name = (codes "h267"); variables = (no_fields) } ∷ record { name = (codes "h268"); variables = (no_fields) } ∷ record { name = (codes "h269"); variables = (no_fields) } ∷ record { name = (codes "h270"); variables = (no_fields) } ∷ record { name = (codes "h271"); variables = (no_fields) } ∷ record { name = (codes "h272"); variables = (no_fields) } ∷ record { name = (codes "h273"); variables = (no_fields) } ∷ record { name = (codes "h274"); variables = (no_fields) } ∷ record { name = (codes "h275"); variables = (no_fields) } ∷ record { name = (codes "h276"); variables = (no_fields) } ∷ record { name = (codes "h277"); variables = (no_fields) } ∷ record { name = (codes "h278"); variables = (no_fields) } ∷ record { name = (codes "h279"); variables = (no_fields) } ∷ record { name = (codes "h280"); variables = (no_fields) } ∷ record { name = (codes "h281"); variables = (no_fields) } ∷ record { name = (codes "h282"); variables = (no_fields) } ∷ record { name = (codes "h283"); variables = (no_fields) } ∷ record { name = (codes "h284"); variables = (no_fields) } ∷ record { name = (codes "h285"); variables = (no_fields) } ∷ record { name = (codes "h286"); variables = (no_fields) } ∷ record { name = (codes "h287"); variables = (no_fields) } ∷ record { name = (codes "h288"); variables = (no_fields) } ∷ record { name = (codes "h289"); variables = (no_fields) } ∷ record { name = (codes "h290"); variables = (no_fields) } ∷ record { name = (codes "h291"); variables = (no_fields) } ∷ record { name = (codes "h292"); variables = (no_fields) } ∷ record { name = (codes "h293"); variables = (no_fields) } ∷ record { name = (codes "h294"); variables = (no_fields) } ∷ record { name = (codes "h295"); variables = (no_fields) } ∷ record { name = (codes "h296"); variables = (no_fields) } ∷ record { name = (codes "h297"); variables = (no_fields) } ∷ record { name = (codes "h298"); variables = (no_fields) } ∷ record { name = (codes "h299"); variables = (no_fields) } ∷ record { name = (codes "h300"); variables = (no_fields) } ∷ record { name = (codes "h301"); variables = (no_fields) } ∷ record { name = (codes "h302"); variables = (no_fields) } ∷ record { name = (codes "h303"); variables = (no_fields) } ∷ record { name = (codes "h304"); variables = (no_fields) } ∷ record { name = (codes "h305"); variables = (no_fields) } ∷ record { name = (codes "h306"); variables = (no_fields) } ∷ record { name = (codes "h307"); variables = (no_fields) } ∷ record { name = (codes "h308"); variables = (no_fields) } ∷ record { name = (codes "h309"); variables = (no_fields) } ∷ record { name = (codes "h310"); variables = (no_fields) } ∷ record { name = (codes "h311"); variables = (no_fields) } ∷ record { name = (codes "h312"); variables = (no_fields) } ∷ record { name = (codes "h313"); variables = (no_fields) } ∷ record { name = (codes "h314"); variables = (no_fields) } ∷ record { name = (codes "h315"); variables = (no_fields) } ∷ record { name = (codes "h316"); variables = (no_fields) } ∷ record { name = (codes "h317"); variables = (no_fields) } ∷ record { name = (codes "h318"); variables = (no_fields) } ∷ record { name = (codes "h319"); variables = (no_fields) } ∷ record { name = (codes "h320"); variables = (no_fields) } ∷ record { name = (codes "h321"); variables = (no_fields) } ∷ record { name = (codes "h322"); variables = (no_fields) } ∷ record { name = (codes "h323"); variables = (no_fields) } ∷ record { name = (codes "h324"); variables = (no_fields) } ∷ record { name = (codes "h325"); variables = (no_fields) } ∷ record { name = (codes "h326"); variables = (no_fields) } ∷ record { name = (codes "h327"); variables = (no_fields) } ∷ record { name = (codes "h328"); variables = (no_fields) } ∷ record { name = (codes "h329"); variables = (no_fields) } ∷ record { name = (codes "h330"); variables = (no_fields) } ∷ record { name = (codes "h331"); variables = (no_fields) } ∷ record { name = (codes "h332"); variables = (no_fields) } ∷ record { name = (codes "h333"); variables = (no_fields) } ∷ record { name = (codes "h334"); variables = (no_fields) } ∷ record { name = (codes "h335"); variables = (no_fields) } ∷ record { name = (codes "h336"); variables = (no_fields) } ∷ record { name = (codes "h337"); variables = (no_fields) } ∷ record { name = (codes "h338"); variables = (no_fields) } ∷ record { name = (codes "h339"); variables = (no_fields) } ∷ record { name = (codes "h340"); variables = (no_fields) } ∷ record { name = (codes "h341"); variables = (no_fields) } ∷ record { name = (codes "h342"); variables = (no_fields) } ∷ record { name = (codes "h343"); variables = (no_fields) } ∷ record { name = (codes "h344"); variables = (no_fields) } ∷ record { name = (codes "h345"); variables = (no_fields) } ∷ record { name = (codes "h346"); variables = (no_fields) } ∷ record { name = (codes "h347"); variables = (no_fields) } ∷ record { name = (codes "h348"); variables = (no_fields) } ∷ record { name = (codes "h349"); variables = (no_fields) } ∷ record { name = (codes "h350"); variables = (no_fields) } ∷ record { name = (codes "h351"); variables = (no_fields) } ∷ record { name = (codes "h352"); variables = (no_fields) } ∷ record { name = (codes "h353"); variables = (no_fields) } ∷ record { name = (codes "h354"); variables = (no_fields) } ∷ record { name = (codes "h355"); variables = (no_fields) } ∷ record { name = (codes "h356"); variables = (no_fields) } ∷ record { name = (codes "h357"); variables = (no_fields) } ∷ record { name = (codes "h358"); variables = (no_fields) } ∷ record { name = (codes "h359"); variables = (no_fields) } ∷ record { name = (codes "h360"); variables = (no_fields) } ∷ record { name = (codes "h361"); variables = (no_fields) } ∷ record { name = (codes "h362"); variables = (no_fields) } ∷ record { name = (codes "h363"); variables = (no_fields) } ∷ record { name = (codes "h364"); variables = (no_fields) } ∷ record { name = (codes "h365"); variables = (no_fields) } ∷ record { name = (codes "h366"); variables = (no_fields) } ∷ record { name = (codes "h367"); variables = (no_fields) } ∷ record { name = (codes "h368"); variables = (no_fields) } ∷ record { name = (codes "h369"); variables = (no_fields) } ∷ record { name = (codes "h370"); variables = (no_fields) } ∷ record { name = (codes "h371"); variables = (no_fields) } ∷ record { name = (codes "h372"); variables = (no_fields) } ∷ record { name = (codes "h373"); variables = (no_fields) } ∷ record { name = (codes "h374"); variables = (no_fields) } ∷ record { name = (codes "h375"); variables = (no_fields) } ∷ record { name = (codes "h376"); variables = (no_fields) } ∷ record { name = (codes "h377"); variables = (no_fields) } ∷ record { name = (codes "h378"); variables = (no_fields) } ∷ record { name = (codes "h379"); variables = (no_fields) } ∷ record { name = (codes "h380"); variables = (no_fields) } ∷ record { name = (codes "h381"); variables = (no_fields) } ∷ record { name = (codes "h382"); variables = (no_fields) } ∷ record { name = (codes "h383"); variables = (no_fields) } ∷ record { name = (codes "h384"); variables = (no_fields) } ∷ record { name = (codes "h385"); variables = (no_fields) } ∷ record { name = (codes "h386"); variables = (no_fields) } ∷ record { name = (codes "h387"); variables = (no_fields) } ∷ record { name = (codes "h388"); variables = (no_fields) } ∷ record { name = (codes "h389"); variables = (no_fields) } ∷ record { name = (codes "h390"); variables = (no_fields) } ∷ record { name = (codes "h391"); variables = (no_fields) } ∷ record { name = (codes "h392"); variables = (no_fields) } ∷ record { name = (codes "h393"); variables = (no_fields) } ∷ record { name = (codes "h394"); variables = (no_fields) } ∷ record { name = (codes "h395"); variables = (no_fields) } ∷ record { name = (codes "h396"); variables = (no_fields) } ∷ record { name = (codes "h397"); variables = (no_fields) } ∷ record { name = (codes "h398"); variables = (no_fields) } ∷ record { name = (codes "h399"); variables = (no_fields) } ∷ record { name = (codes "h400"); variables = (no_fields) } ∷ record { name = (codes "h401"); variables = (no_fields) } ∷ record { name = (codes "h402"); variables = (no_fields) } ∷ record { name = (codes "h403"); variables = (no_fields) } ∷ record { name = (codes "h404"); variables = (no_fields) } ∷ record { name = (codes "h405"); variables = (no_fields) } ∷ record { name = (codes "h406"); variables = (no_fields) } ∷ record { name = (codes "h407"); variables = (no_fields) } ∷ record { name = (codes "h408"); variables = (no_fields) } ∷ record { name = (codes "h409"); variables = (no_fields) } ∷ record { name = (codes "h410"); variables = (no_fields) } ∷ record { name = (codes "h411"); variables = (no_fields) } ∷ record { name = (codes "h412"); variables = (no_fields) } ∷ record { name = (codes "h413"); variables = (no_fields) } ∷ record { name = (codes "h414"); variables = (no_fields) } ∷ record { name = (codes "h415"); variables = (no_fields) } ∷ record { name = (codes "h416"); variables = (no_fields) } ∷ record { name = (codes "h417"); variables = (no_fields) } ∷ record { name = (codes "h418"); variables = (no_fields) } ∷ record { name = (codes "h419"); variables = (no_fields) } ∷ record { name = (codes "h420"); variables = (no_fields) } ∷ record { name = (codes "h421"); variables = (no_fields) } ∷ record { name = (codes "h422"); variables = (no_fields) } ∷ record { name = (codes "h423"); variables = (no_fields) } ∷ record { name = (codes "h424"); variables = (no_fields) } ∷ record { name = (codes "h425"); variables = (no_fields) } ∷ record { name = (codes "h426"); variables = (no_fields) } ∷ record { name = (codes "h427"); variables = (no_fields) } ∷ record { name = (codes "h428"); variables = (no_fields) } ∷ record { name = (codes "h429"); variables = (no_fields) } ∷ record { name = (codes "h430"); variables = (no_fields) } ∷ record { name = (codes "h431"); variables = (no_fields) } ∷ record { name = (codes "h432"); variables = (no_fields) } ∷ record { name = (codes "h433"); variables = (no_fields) } ∷ record { name = (codes "h434"); variables = (no_fields) } ∷ record { name = (codes "h435"); variables = (no_fields) } ∷ record { name = (codes "h436"); variables = (no_fields) } ∷ record { name = (codes "h437"); variables = (no_fields) } ∷ record { name = (codes "h438"); variables = (no_fields) } ∷ record { name = (codes "h439"); variables = (no_fields) } ∷ record { name = (codes "h440"); variables = (no_fields) } ∷ record { name = (codes "h441"); variables = (no_fields) } ∷ record { name = (codes "h442"); variables = (no_fields) } ∷ record { name = (codes "h443"); variables = (no_fields) } ∷ record { name = (codes "h444"); variables = (no_fields) } ∷ record { name = (codes "h445"); variables = (no_fields) } ∷ record { name = (codes "h446"); variables = (no_fields) } ∷ record { name = (codes "h447"); variables = (no_fields) } ∷ record { name = (codes "h448"); variables = (no_fields) } ∷ record { name = (codes "h449"); variables = (no_fields) } ∷ record { name = (codes "h450"); variables = (no_fields) } ∷ record { name = (codes "h451"); variables = (no_fields) } ∷ record { name = (codes "h452"); variables = (no_fields) } ∷ record { name = (codes "h453"); variables = (no_fields) } ∷ record { name = (codes "h454"); variables = (no_fields) } ∷ record { name = (codes "h455"); variables = (no_fields) } ∷ record { name = (codes "h456"); variables = (no_fields) } ∷ record { name = (codes "h457"); variables = (no_fields) } ∷ record { name = (codes "h458"); variables = (no_fields) } ∷ record { name = (codes "h459"); variables = (no_fields) } ∷ record { name = (codes "h460"); variables = (no_fields) } ∷ record { name = (codes "h461"); variables = (no_fields) } ∷ record { name = (codes "h462"); variables = (no_fields) } ∷ record { name = (codes "h463"); variables = (no_fields) } ∷ record { name = (codes "h464"); variables = (no_fields) } ∷ record { name = (codes "h465"); variables = (no_fields) } ∷ record { name = (codes "h466"); variables = (no_fields) } ∷ record { name = (codes "h467"); variables = (no_fields) } ∷ record { name = (codes "h468"); variables = (no_fields) } ∷ record { name = (codes "h469"); variables = (no_fields) } ∷ record { name = (codes "h470"); variables = (no_fields) } ∷ record { name = (codes "h471"); variables = (no_fields) } ∷ record { name = (codes "h472"); variables = (no_fields) } ∷ record { name = (codes "h473"); variables = (no_fields) } ∷ record { name = (codes "h474"); variables = (no_fields) } ∷ record { name = (codes "h475"); variables = (no_fields) } ∷ record { name = (codes "h476"); variables = (no_fields) } ∷ record { name = (codes "h477"); variables = (no_fields) } ∷ record { name = (codes "h478"); variables = (no_fields) } ∷ record { name = (codes "h479"); variables = (no_fields) } ∷ record { name = (codes "h480"); variables = (no_fields) } ∷ record { name = (codes "h481"); variables = (no_fields) } ∷ record { name = (codes "h482"); variables = (no_fields) } ∷ record { name = (codes "h483"); variables = (no_fields) } ∷ record { name = (codes "h484"); variables = (no_fields) } ∷ record { name = (codes "h485"); variables = (no_fields) } ∷ record { name = (codes "h486"); variables = (no_fields) } ∷ record { name = (codes "h487"); variables = (no_fields) } ∷ record { name = (codes "h488"); variables = (no_fields) } ∷ record { name = (codes "h489"); variables = (no_fields) } ∷ record { name = (codes "h490"); variables = (no_fields) } ∷ record { name = (codes "h491"); variables = (no_fields) } ∷ record { name = (codes "h492"); variables = (no_fields) } ∷ record { name = (codes "h493"); variables = (no_fields) } ∷ record { name = (codes "h494"); variables = (no_fields) } ∷ record { name = (codes "h495"); variables = (no_fields) } ∷ record { name = (codes "h496"); variables = (no_fields) } ∷ record { name = (codes "h497"); variables = (no_fields) } ∷ record { name = (codes "h498"); variables = (no_fields) } ∷ record { name = (codes "h499"); variables = (no_fields) } ∷ record { name = (codes "h500"); variables = (no_fields) } ∷ record { name = (codes "h501"); variables = (no_fields) } ∷ record { name = (codes "h502"); variables = (no_fields) } ∷ record { name = (codes "h503"); variables = (no_fields) } ∷ record { name = (codes "h504"); variables = (no_fields) } ∷ record { name = (codes "h505"); variables = (no_fields) } ∷ record { name = (codes "h506"); variables = (no_fields) } ∷ record { name = (codes "h507"); variables = (no_fields) } ∷ record { name = (codes "h508"); variables = (no_fields) } ∷ record { name = (codes "h509"); variables = (no_fields) } ∷ record { name = (codes "h510"); variables = (no_fields) } ∷ record { name = (codes "h511"); variables = (no_fields) } ∷ record { name = (codes "h512"); variables = (no_fields) } ∷ record { name = (codes "h513"); variables = (no_fields) } ∷ record { name = (codes "h514"); variables = (no_fields) } ∷ record { name = (codes "h515"); variables = (no_fields) } ∷ record { name = (codes "h516"); variables = (no_fields) } ∷ record { name = (codes "h517"); variables = (no_fields) } ∷ record { name = (codes "h518"); variables = (no_fields) } ∷ record { name = (codes "h519"); variables = (no_fields) } ∷ record { name = (codes "h520"); variables = (no_fields) } ∷ record { name = (codes "h521"); variables = (no_fields) } ∷ record { name = (codes "h522"); variables = (no_fields) } ∷ record { name = (codes "h523"); variables = (no_fields) } ∷ record { name = (codes "h524"); variables = (no_fields) } ∷ record { name = (codes "h525"); variables = (no_fields) } ∷ record { name = (codes "h526"); variables = (no_fields) } ∷ record { name = (codes "h527"); variables = (no_fields) } ∷ record { name = (codes "h528"); variables = (no_fields) } ∷ record { name = (codes "h529"); variables = (no_fields) } ∷ record { name = (codes "h530"); variables = (no_fields) } ∷ record { name = (codes "h531"); variables = (no_fields) } ∷ record { name = (codes "h532"); variables = (no_fields) } ∷ record { name = (codes "h533"); variables = (no_fields) } ∷ record { name = (codes "h534"); variables = (no_fields) } ∷ record { name = (codes "h535"); variables = (no_fields) } ∷ record { name = (codes "h536"); variables = (no_fields) } ∷ record { name = (codes "h537"); variables = (no_fields) } ∷ record { name = (codes "h538"); variables = (no_fields) } ∷ record { name = (codes "h539"); variables = (no_fields) } ∷ record { name = (codes "h540"); variables = (no_fields) } ∷ record { name = (codes "h541"); variables = (no_fields) } ∷ record { name = (codes "h542"); variables = (no_fields) } ∷ record { name = (codes "h543"); variables = (no_fields) } ∷ record { name = (codes "h544"); variables = (no_fields) } ∷ record { name = (codes "h545"); variables = (no_fields) } ∷ record { name = (codes "h546"); variables = (no_fields) } ∷ record { name = (codes "h547"); variables = (no_fields) } ∷ record { name = (codes "h548"); variables = (no_fields) } ∷ record { name = (codes "h549"); variables = (no_fields) } ∷ record { name = (codes "h550"); variables = (no_fields) } ∷ record { name = (codes "h551"); variables = (no_fields) } ∷ record { name = (codes "h552"); variables = (no_fields) } ∷ record { name = (codes "h553"); variables = (no_fields) } ∷ record { name = (codes "h554"); variables = (no_fields) } ∷ record { name = (codes "h555"); variables = (no_fields) } ∷ record { name = (codes "h556"); variables = (no_fields) } ∷ record { name = (codes "h557"); variables = (no_fields) } ∷ record { name = (codes "h558"); variables = (no_fields) } ∷ record { name = (codes "h559"); variables = (no_fields) } ∷ record { name = (codes "h560"); variables = (no_fields) } ∷ record { name = (codes "h561"); variables = (no_fields) } ∷ record { name = (codes "h562"); variables = (no_fields) } ∷ record { name = (codes "h563"); variables = (no_fields) } ∷ record { name = (codes "h564"); variables = (no_fields) } ∷ record { name = (codes "h565"); variables = (no_fields) } ∷ record { name = (codes "h566"); variables = (no_fields) } ∷ record { name = (codes "h567"); variables = (no_fields) } ∷ record { name = (codes "h568"); variables = (no_fields) } ∷ record { name = (codes "h569"); variables = (no_fields) } ∷ record { name = (codes "h570"); variables = (no_fields) } ∷ record { name = (codes "h571"); variables = (no_fields) } ∷ record { name = (codes "h572"); variables = (no_fields) } ∷ record { name = (codes "h573"); variables = (no_fields) } ∷ record { name = (codes "h574"); variables = (no_fields) } ∷ record { name = (codes "h575"); variables = (no_fields) } ∷ record { name = (codes "h576"); variables = (no_fields) } ∷ record { name = (codes "h577"); variables = (no_fields) } ∷ record { name = (codes "h578"); variables = (no_fields) } ∷ record { name = (codes "h579"); variables = (no_fields) } ∷ record { name = (codes "h580"); variables = (no_fields) } ∷ record { name = (codes "h581"); variables = (no_fields) } ∷ record { name = (codes "h582"); variables = (no_fields) } ∷ record { name = (codes "h583"); variables = (no_fields) } ∷ record { name = (codes "h584"); variables = (no_fields) } ∷ record { name = (codes "h585"); variables = (no_fields) } ∷ record { name = (codes "h586"); variables = (no_fields) } ∷ record { name = (codes "h587"); variables = (no_fields) } ∷ record { name = (codes "h588"); variables = (no_fields) } ∷ record { name = (codes "h589"); variables = (no_fields) } ∷ record { name = (codes "h590"); variables = (no_fields) } ∷ record { name = (codes "h591"); variables = (no_fields) } ∷ record { name = (codes "h592"); variables = (no_fields) } ∷ record { name = (codes "h593"); variables = (no_fields) } ∷ record { name = (codes "h594"); variables = (no_fields) } ∷ record { name = (codes "h595"); variables = (no_fields) } ∷ record { name = (codes "h596"); variables = (no_fields) } ∷ record { name = (codes "h597"); variables = (no_fields) } ∷ record { name = (codes "h598"); variables = (no_fields) } ∷ record { name = (codes "h599"); variables = (no_fields) } ∷ record { name = (codes "h600"); variables = (no_fields) } ∷ record { name = (codes "h601"); variables = (no_fields) } ∷ record { name = (codes "h602"); variables = (no_fields) } ∷ record { name = (codes "h603"); variables = (no_fields) } ∷ record { name = (codes "h604"); variables = (no_fields) } ∷ record { name = (codes "h605"); variables = (no_fields) } ∷ record { name = (codes "h606"); variables = (no_fields) } ∷ record { name = (codes "h607"); variables = (no_fields) } ∷ record { name = (codes "h608"); variables = (no_fields) } ∷ record { name = (codes "h609"); variables = (no_fields) } ∷ record { name = (codes "h610"); variables = (no_fields) } ∷ record { name = (codes "h611"); variables = (no_fields) } ∷ record { name = (codes "h612"); variables = (no_fields) } ∷ record { name = (codes "h613"); variables = (no_fields) } ∷ record { name = (codes "h614"); variables = (no_fields) } ∷ record { name = (codes "h615"); variables = (no_fields) } ∷ record { name = (codes "h616"); variables = (no_fields) } ∷ record { name = (codes "h617"); variables = (no_fields) } ∷ record { name = (codes "h618"); variables = (no_fields) } ∷ record { name = (codes "h619"); variables = (no_fields) } ∷ record { name = (codes "h620"); variables = (no_fields) } ∷ record { name = (codes "h621"); variables = (no_fields) } ∷ record { name = (codes "h622"); variables = (no_fields) } ∷ record { name = (codes "h623"); variables = (no_fields) } ∷ record { name = (codes "h624"); variables = (no_fields) } ∷ record { name = (codes "h625"); variables = (no_fields) } ∷ record { name = (codes "h626"); variables = (no_fields) } ∷ record { name = (codes "h627"); variables = (no_fields) } ∷ record { name = (codes "h628"); variables = (no_fields) } ∷ record { name = (codes "h629"); variables = (no_fields) } ∷ record { name = (codes "h630"); variables = (no_fields) } ∷ record { name = (codes "h631"); variables = (no_fields) } ∷ record { name = (codes "h632"); variables = (no_fields) } ∷ record { name = (codes "h633"); variables = (no_fields) } ∷ record { name = (codes "h634"); variables = (no_fields) } ∷ record { name = (codes "h635"); variables = (no_fields) } ∷ record { name = (codes "h636"); variables = (no_fields) } ∷ record { name = (codes "h637"); variables = (no_fields) } ∷ record { name = (codes "h638"); variables = (no_fields) } ∷ record { name = (codes "h639"); variables = (no_fields) } ∷ record { name = (codes "h640"); variables = (no_fields) } ∷ record { name = (codes "h641"); variables = (no_fields) } ∷ record { name = (codes "h642"); variables = (no_fields) } ∷ record { name = (codes "h643"); variables = (no_fields) } ∷ record { name = (codes "h644"); variables = (no_fields) } ∷ record { name = (codes "h645"); variables = (no_fields) } ∷ record { name = (codes "h646"); variables = (no_fields) } ∷ record { name = (codes "h647"); variables = (no_fields) } ∷ record { name = (codes "h648"); variables = (no_fields) } ∷ record { name = (codes "h649"); variables = (no_fields) } ∷ record { name = (codes "h650"); variables = (no_fields) } ∷ record { name = (codes "h651"); variables = (no_fields) } ∷ record { name = (codes "h652"); variables = (no_fields) } ∷ record { name = (codes "h653"); variables = (no_fields) } ∷ record { name = (codes "h654"); variables = (no_fields) } ∷ record { name = (codes "h655"); variables = (no_fields) } ∷ record { name = (codes "h656"); variables = (no_fields) } ∷ record { name = (codes "h657"); variables = (no_fields) } ∷ record { name = (codes "h658"); variables = (no_fields) } ∷ record { name = (codes "h659"); variables = (no_fields) } ∷ record { name = (codes "h660"); variables = (no_fields) } ∷ record { name = (codes "h661"); variables = (no_fields) } ∷ record { name = (codes "h662"); variables = (no_fields) } ∷ record { name = (codes "h663"); variables = (no_fields) } ∷ record { name = (codes "h664"); variables = (no_fields) } ∷ record { name = (codes "h665"); variables = (no_fields) } ∷ record { name = (codes "h666"); variables = (no_fields) } ∷ record { name = (codes "h667"); variables = (no_fields) } ∷ record { name = (codes "h668"); variables = (no_fields) } ∷ record { name = (codes "h669"); variables = (no_fields) } ∷ record { name = (codes "h670"); variables = (no_fields) } ∷ record { name = (codes "h671"); variables = (no_fields) } ∷ record { name = (codes "h672"); variables = (no_fields) } ∷ record { name = (codes "h673"); variables = (no_fields) } ∷ record { name = (codes "h674"); variables = (no_fields) } ∷ record { name = (codes "h675"); variables = (no_fields) } ∷ record { name = (codes "h676"); variables = (no_fields) } ∷ record { name = (codes "h677"); variables = (no_fields) } ∷ record { name = (codes "h678"); variables = (no_fields) } ∷ record { name = (codes "h679"); variables = (no_fields) } ∷ record { name = (codes "h680"); variables = (no_fields) } ∷ record { name = (codes "h681"); variables = (no_fields) } ∷ record { name = (codes "h682"); variables = (no_fields) } ∷ record { name = (codes "h683"); variables = (no_fields) } ∷ record { name = (codes "h684"); variables = (no_fields) } ∷ record { name = (codes "h685"); variables = (no_fields) } ∷ record { name = (codes "h686"); variables = (no_fields) } ∷ record { name = (codes "h687"); variables = (no_fields) } ∷ record { name = (codes "h688"); variables = (no_fields) } ∷ record { name = (codes "h689"); variables = (no_fields) } ∷ record { name = (codes "h690"); variables = (no_fields) } ∷ record { name = (codes "h691"); variables = (no_fields) } ∷ record { name = (codes "h692"); variables = (no_fields) } ∷ record { name = (codes "h693"); variables = (no_fields) } ∷ record { name = (codes "h694"); variables = (no_fields) } ∷ record { name = (codes "h695"); variables = (no_fields) } ∷ record { name = (codes "h696"); variables = (no_fields) } ∷ record { name = (codes "h697"); variables = (no_fields) } ∷ record { name = (codes "h698"); variables = (no_fields) } ∷ record { name = (codes "h699"); variables = (no_fields) } ∷ record { name = (codes "h700"); variables = (no_fields) } ∷ record { name = (codes "h701"); variables = (no_fields) } ∷ record { name = (codes "h702"); variables = (no_fields) } ∷ record { name = (codes "h703"); variables = (no_fields) } ∷ record { name = (codes "h704"); variables = (no_fields) } ∷ record { name = (codes "h705"); variables = (no_fields) } ∷ record { name = (codes "h706"); variables = (no_fields) } ∷ record { name = (codes "h707"); variables = (no_fields) } ∷ record { name = (codes "h708"); variables = (no_fields) } ∷ record { name = (codes "h709"); variables = (no_fields) } ∷ record { name = (codes "h710"); variables = (no_fields) } ∷ record { name = (codes "h711"); variables = (no_fields) } ∷ record { name = (codes "h712"); variables = (no_fields) } ∷ record { name = (codes "h713"); variables = (no_fields) } ∷ record { name = (codes "h714"); variables = (no_fields) } ∷ record { name = (codes "h715"); variables = (no_fields) } ∷ record { name = (codes "h716"); variables = (no_fields) } ∷ record { name = (codes "h717"); variables = (no_fields) } ∷ record { name = (codes "h718"); variables = (no_fields) } ∷ record { name = (codes "h719"); variables = (no_fields) } ∷ record { name = (codes "h720"); variables = (no_fields) } ∷ record { name = (codes "h721"); variables = (no_fields) } ∷ record { name = (codes "h722"); variables = (no_fields) } ∷ record { name = (codes "h723"); variables = (no_fields) } ∷ record { name = (codes "h724"); variables = (no_fields) } ∷ record { name = (codes "h725"); variables = (no_fields) } ∷ record { name = (codes "h726"); variables = (no_fields) } ∷ record { name = (codes "h727"); variables = (no_fields) } ∷ record { name = (codes "h728"); variables = (no_fields) } ∷ record { name = (codes "h729"); variables = (no_fields) } ∷ record { name = (codes "h730"); variables = (no_fields) } ∷ record { name = (codes "h731"); variables = (no_fields) } ∷ record { name = (codes "h732"); variables = (no_fields) } ∷ record { name = (codes "h733"); variables = (no_fields) } ∷ record { name = (codes "h734"); variables = (no_fields) } ∷ record { name = (codes "h735"); variables = (no_fields) } ∷ record { name = (codes "h736"); variables = (no_fields) } ∷ record { name = (codes "h737"); variables = (no_fields) } ∷ record { name = (codes "h738"); variables = (no_fields) } ∷ record { name = (codes "h739"); variables = (no_fields) } ∷ record { name = (codes "h740"); variables = (no_fields) } ∷ record { name = (codes "h741"); variables = (no_fields) } ∷ record { name = (codes "h742"); variables = (no_fields) } ∷ record { name = (codes "h743"); variables = (no_fields) } ∷ record { name = (codes "h744"); variables = (no_fields) } ∷ record { name = (codes "h745"); variables = (no_fields) } ∷ record { name = (codes "h746"); variables = (no_fields) } ∷ record { name = (codes "h747"); variables = (no_fields) } ∷ record { name = (codes "h748"); variables = (no_fields) } ∷ record { name = (codes "h749"); variables = (no_fields) } ∷ record { name = (codes "h750"); variables = (no_fields) } ∷ record { name = (codes "h751"); variables = (no_fields) } ∷ record { name = (codes "h752"); variables = (no_fields) } ∷ record { name = (codes "h753"); variables = (no_fields) } ∷ record { name = (codes "h754"); variables = (no_fields) } ∷ record { name = (codes "h755"); variables = (no_fields) } ∷ record { name = (codes "h756"); variables = (no_fields) } ∷ record { name = (codes "h757"); variables = (no_fields) } ∷ record { name = (codes "h758"); variables = (no_fields) } ∷ record { name = (codes "h759"); variables = (no_fields) } ∷ record { name = (codes "h760"); variables = (no_fields) } ∷ record { name = (codes "h761"); variables = (no_fields) } ∷ record { name = (codes "h762"); variables = (no_fields) } ∷ record { name = (codes "h763"); variables = (no_fields) } ∷ record { name = (codes "h764"); variables = (no_fields) } ∷ record { name = (codes "h765"); variables = (no_fields) } ∷ record { name = (codes "h766"); variables = (no_fields) } ∷ record { name = (codes "h767"); variables = (no_fields) } ∷ record { name = (codes "h768"); variables = (no_fields) } ∷ record { name = (codes "h769"); variables = (no_fields) } ∷ record { name = (codes "h770"); variables = (no_fields) } ∷ record { name = (codes "h771"); variables = (no_fields) } ∷ record { name = (codes "h772"); variables = (no_fields) } ∷ record { name = (codes "h773"); variables = (no_fields) } ∷ record { name = (codes "h774"); variables = (no_fields) } ∷ record { name = (codes "h775"); variables = (no_fields) } ∷ record { name = (codes "h776"); variables = (no_fields) } ∷ record { name = (codes "h777"); variables = (no_fields) } ∷ record { name = (codes "h778"); variables = (no_fields) } ∷ record { name = (codes "h779"); variables = (no_fields) } ∷ record { name = (codes "h780"); variables = (no_fields) } ∷ record { name = (codes "h781"); variables = (no_fields) } ∷ record { name = (codes "h782"); variables = (no_fields) } ∷ record { name = (codes "h783"); variables = (no_fields) } ∷ record { name = (codes "h784"); variables = (no_fields) } ∷ record { name = (codes "h785"); variables = (no_fields) } ∷ record { name = (codes "h786"); variables = (no_fields) } ∷ record { name = (codes "h787"); variables = (no_fields) } ∷ record { name = (codes "h788"); variables = (no_fields) } ∷ record { name = (codes "h789"); variables = (no_fields) } ∷ record { name = (codes "h790"); variables = (no_fields) } ∷ record { name = (codes "h791"); variables = (no_fields) } ∷ record { name = (codes "h792"); variables = (no_fields) } ∷ record { name = (codes "h793"); variables = (no_fields) } ∷ record { name = (codes "h794"); variables = (no_fields) } ∷ record { name = (codes "h795"); variables = (no_fields) } ∷ record { name = (codes "h796"); variables = (no_fields) } ∷ record { name = (codes "h797"); variables = (no_fields) } ∷ record { name = (codes "h798"); variables = (no_fields) } ∷ record { name = (codes "h799"); variables = (no_fields) } ∷ record { name = (codes "h800"); variables = (no_fields) } ∷ record { name = (codes "h801"); variables = (no_fields) } ∷ record { name = (codes "h802"); variables = (no_fields) } ∷ record { name = (codes "h803"); variables = (no_fields) } ∷ record { name = (codes "h804"); variables = (no_fields) } ∷ record { name = (codes "h805"); variables = (no_fields) } ∷ record { name = (codes "h806"); variables = (no_fields) } ∷ record { name = (codes "h807"); variables = (no_fields) } ∷ record { name = (codes "h808"); variables = (no_fields) } ∷ record { name = (codes "h809"); variables = (no_fields) } ∷ record { name = (codes "h810"); variables = (no_fields) } ∷ record { name = (codes "h811"); variables = (no_fields) } ∷ record { name = (codes "h812"); variables = (no_fields) } ∷ record { name = (codes "h813"); variables = (no_fields) } ∷ record { name = (codes "h814"); variables = (no_fields) } ∷ record { name = (codes "h815"); variables = (no_fields) } ∷ record { name = (codes "h816"); variables = (no_fields) } ∷ record { name = (codes "h817"); variables = (no_fields) } ∷ record { name = (codes "h818"); variables = (no_fields) } ∷ record { name = (codes "h819"); variables = (no_fields) } ∷ record { name = (codes "h820"); variables = (no_fields) } ∷ record { name = (codes "h821"); variables = (no_fields) } ∷ record { name = (codes "h822"); variables = (no_fields) } ∷ record { name = (codes "h823"); variables = (no_fields) } ∷ record { name = (codes "h824"); variables = (no_fields) } ∷ record { name = (codes "h825"); variables = (no_fields) } ∷ record { name = (codes "h826"); variables = (no_fields) } ∷ record { name = (codes "h827"); variables = (no_fields) } ∷ record { name = (codes "h828"); variables = (no_fields) } ∷ record { name = (codes "h829"); variables = (no_fields) } ∷ record { name = (codes "h830"); variables = (no_fields) } ∷ record { name = (codes "h831"); variables = (no_fields) } ∷ record { name = (codes "h832"); variables = (no_fields) } ∷ record { name = (codes "h833"); variables = (no_fields) } ∷ record { name = (codes "h834"); variables = (no_fields) } ∷ record { name = (codes "h835"); variables = (no_fields) } ∷ record { name = (codes "h836"); variables = (no_fields) } ∷ record { name = (codes "h837"); variables = (no_fields) } ∷ record { name = (codes "h838"); variables = (no_fields) } ∷ record { name = (codes "h839"); variables = (no_fields) } ∷ record { name = (codes "h840"); variables = (no_fields) } ∷ record { name = (codes "h841"); variables = (no_fields) } ∷ record { name = (codes "h842"); variables = (no_fields) } ∷ record { name = (codes "h843"); variables = (no_fields) } ∷ record { name = (codes "h844"); variables = (no_fields) } ∷ record { name = (codes "h845"); variables = (no_fields) } ∷ record { name = (codes "h846"); variables = (no_fields) } ∷ record { name = (codes "h847"); variables = (no_fields) } ∷ record { name = (codes "h848"); variables = (no_fields) } ∷ record { name = (codes "h849"); variables = (no_fields) } ∷ record { name = (codes "h850"); variables = (no_fields) } ∷ record { name = (codes "h851"); variables = (no_fields) } ∷ record { name = (codes "h852"); variables = (no_fields) } ∷ record { name = (codes "h853"); variables = (no_fields) } ∷ record { name = (codes "h854"); variables = (no_fields) } ∷ record { name = (codes "h855"); variables = (no_fields) } ∷ record { name = (codes "h856"); variables = (no_fields) } ∷ record { name = (codes "h857"); variables = (no_fields) } ∷ record { name = (codes "h858"); variables = (no_fields) } ∷ record { name = (codes "h859"); variables = (no_fields) } ∷ record { name = (codes "h860"); variables = (no_fields) } ∷ record { name = (codes "h861"); variables = (no_fields) } ∷ record { name = (codes "h862"); variables = (no_fields) } ∷ record { name = (codes "h863"); variables = (no_fields) } ∷ record { name = (codes "h864"); variables = (no_fields) } ∷ record { name = (codes "h865"); variables = (no_fields) } ∷ record { name = (codes "h866"); variables = (no_fields) } ∷ record { name = (codes "h867"); variables = (no_fields) } ∷ record { name = (codes "h868"); variables = (no_fields) } ∷ record { name = (codes "h869"); variables = (no_fields) } ∷ record { name = (codes "h870"); variables = (no_fields) } ∷ record { name = (codes "h871"); variables = (no_fields) } ∷ record { name = (codes "h872"); variables = (no_fields) } ∷ record { name = (codes "h873"); variables = (no_fields) } ∷ record { name = (codes "h874"); variables = (no_fields) } ∷ record { name = (codes "h875"); variables = (no_fields) } ∷ record { name = (codes "h876"); variables = (no_fields) } ∷ record { name = (codes "h877"); variables = (no_fields) } ∷ record { name = (codes "h878"); variables = (no_fields) } ∷ record { name = (codes "h879"); variables = (no_fields) } ∷ record { name = (codes "h880"); variables = (no_fields) } ∷ record { name = (codes "h881"); variables = (no_fields) } ∷ record { name = (codes "h882"); variables = (no_fields) } ∷ record { name = (codes "h883"); variables = (no_fields) } ∷ record { name = (codes "h884"); variables = (no_fields) } ∷ record { name = (codes "h885"); variables = (no_fields) } ∷ record { name = (codes "h886"); variables = (no_fields) } ∷ record { name = (codes "h887"); variables = (no_fields) } ∷ record { name = (codes "h888"); variables = (no_fields) } ∷ record { name = (codes "h889"); variables = (no_fields) } ∷ record { name = (codes "h890"); variables = (no_fields) } ∷ record { name = (codes "h891"); variables = (no_fields) } ∷ record { name = (codes "h892"); variables = (no_fields) } ∷ record { name = (codes "h893"); variables = (no_fields) } ∷ record { name = (codes "h894"); variables = (no_fields) } ∷ record { name = (codes "h895"); variables = (no_fields) } ∷ record { name = (codes "h896"); variables = (no_fields) } ∷ record { name = (codes "h897"); variables = (no_fields) } ∷ record { name = (codes "h898"); variables = (no_fields) } ∷ record { name = (codes "h899"); variables = (no_fields) } ∷ record { name = (codes "h900"); variables = (no_fields) } ∷ record { name = (codes "h901"); variables = (no_fields) } ∷ record { name = (codes "h902"); variables = (no_fields) } ∷ record { name = (codes "h903"); variables = (no_fields) } ∷ record { name = (codes "h904"); variables = (no_fields) } ∷ record { name = (codes "h905"); variables = (no_fields) } ∷ record { name = (codes "h906"); variables = (no_fields) } ∷ record { name = (codes "h907"); variables = (no_fields) } ∷ record { name = (codes "h908"); variables = (no_fields) } ∷ record { name = (codes "h909"); variables = (no_fields) } ∷ record { name = (codes "h910"); variables = (no_fields) } ∷ record { name = (codes "h911"); variables = (no_fields) } ∷ record { name = (codes "h912"); variables = (no_fields) } ∷ record { name = (codes "h913"); variables = (no_fields) } ∷ record { name = (codes "h914"); variables = (no_fields) } ∷ record { name = (codes "h915"); variables = (no_fields) } ∷ record { name = (codes "h916"); variables = (no_fields) } ∷ record { name = (codes "h917"); variables = (no_fields) } ∷ record { name = (codes "h918"); variables = (no_fields) } ∷ record { name = (codes "h919"); variables = (no_fields) } ∷ record { name = (codes "h920"); variables = (no_fields) } ∷ record { name = (codes "h921"); variables = (no_fields) } ∷ record { name = (codes "h922"); variables = (no_fields) } ∷ record { name = (codes "h923"); variables = (no_fields) } ∷ record { name = (codes "h924"); variables = (no_fields) } ∷ record { name = (codes "h925"); variables = (no_fields) } ∷ record { name = (codes "h926"); variables = (no_fields) } ∷ record { name = (codes "h927"); variables = (no_fields) } ∷ record { name = (codes "h928"); variables = (no_fields) } ∷ record { name = (codes "h929"); variables = (no_fields) } ∷ record { name = (codes "h930"); variables = (no_fields) } ∷ record { name = (codes "h931"); variables = (no_fields) } ∷ record { name = (codes "h932"); variables = (no_fields) } ∷ record { name = (codes "h933"); variables = (no_fields) } ∷ record { name = (codes "h934"); variables = (no_fields) } ∷ record { name = (codes "h935"); variables = (no_fields) } ∷ record { name = (codes "h936"); variables = (no_fields) } ∷ record { name = (codes "h937"); variables = (no_fields) } ∷ record { name = (codes "h938"); variables = (no_fields) } ∷ record { name = (codes "h939"); variables = (no_fields) } ∷ record { name = (codes "h940"); variables = (no_fields) } ∷ record { name = (codes "h941"); variables = (no_fields) } ∷ record { name = (codes "h942"); variables = (no_fields) } ∷ record { name = (codes "h943"); variables = (no_fields) } ∷ record { name = (codes "h944"); variables = (no_fields) } ∷ record { name = (codes "h945"); variables = (no_fields) } ∷ record { name = (codes "h946"); variables = (no_fields) } ∷ record { name = (codes "h947"); variables = (no_fields) } ∷ record { name = (codes "h948"); variables = (no_fields) } ∷ record { name = (codes "h949"); variables = (no_fields) } ∷ record { name = (codes "h950"); variables = (no_fields) } ∷ record { name = (codes "h951"); variables = (no_fields) } ∷ record { name = (codes "h952"); variables = (no_fields) } ∷ record { name = (codes "h953"); variables = (no_fields) } ∷ record { name = (codes "h954"); variables = (no_fields) } ∷ record { name = (codes "h955"); variables = (no_fields) } ∷ record { name = (codes "h956"); variables = (no_fields) } ∷ record { name = (codes "h957"); variables = (no_fields) } ∷ record { name = (codes "h958"); variables = (no_fields) } ∷ record { name = (codes "h959"); variables = (no_fields) } ∷ record { name = (codes "h960"); variables = (no_fields) } ∷ record { name = (codes "h961"); variables = (no_fields) } ∷ record { name = (codes "h962"); variables = (no_fields) } ∷ record { name = (codes "h963"); variables = (no_fields) } ∷ record { name = (codes "h964"); variables = (no_fields) } ∷ record { name = (codes "h965"); variables = (no_fields) } ∷ record { name = (codes "h966"); variables = (no_fields) } ∷ record { name = (codes "h967"); variables = (no_fields) } ∷ record { name = (codes "h968"); variables = (no_fields) } ∷ record { name = (codes "h969"); variables = (no_fields) } ∷ record { name = (codes "h970"); variables = (no_fields) } ∷ record { name = (codes "h971"); variables = (no_fields) } ∷ record { name = (codes "h972"); variables = (no_fields) } ∷ record { name = (codes "h973"); variables = (no_fields) } ∷ record { name = (codes "h974"); variables = (no_fields) } ∷ record { name = (codes "h975"); variables = (no_fields) } ∷ record { name = (codes "h976"); variables = (no_fields) } ∷ record { name = (codes "h977"); variables = (no_fields) } ∷ record { name = (codes "h978"); variables = (no_fields) } ∷ record { name = (codes "h979"); variables = (no_fields) } ∷ record { name = (codes "h980"); variables = (no_fields) } ∷ record { name = (codes "h981"); variables = (no_fields) } ∷ record { name = (codes "h982"); variables = (no_fields) } ∷ record { name = (codes "h983"); variables = (no_fields) } ∷ record { name = (codes "h984"); variables = (no_fields) } ∷ record { name = (codes "h985"); variables = (no_fields) } ∷ record { name = (codes "h986"); variables = (no_fields) } ∷ record { name = (codes "h987"); variables = (no_fields) } ∷ record { name = (codes "h988"); variables = (no_fields) } ∷ record { name = (codes "h989"); variables = (no_fields) } ∷ record { name = (codes "h990"); variables = (no_fields) } ∷ record { name = (codes "h991"); variables = (no_fields) } ∷ record { name = (codes "h992"); variables = (no_fields) } ∷ record { name = (codes "h993"); variables = (no_fields) } ∷ record { name = (codes "h994"); variables = (no_fields) } ∷ record { name = (codes "h995"); variables = (no_fields) } ∷ record { name = (codes "h996"); variables = (no_fields) } ∷ record { name = (codes "h997"); variables = (no_fields) } ∷ record { name = (codes "h998"); variables = (no_fields) } ∷ record { name = (codes "h999"); variables = (no_fields) } ∷ record { name = (codes "h1000"); variables = (no_fields) } ∷ record { name = (codes "h1001"); variables = (no_fields) } ∷ record { name = (codes "h1002"); variables = (no_fields) } ∷ record { name = (codes "h1003"); variables = (no_fields) } ∷ record { name = (codes "h1004"); variables = (no_fields) } ∷ record { name = (codes "h1005"); variables = (no_fields) } ∷ record { name = (codes "h1006"); variables = (no_fields) } ∷ record { name = (codes "h1007"); variables = (no_fields) } ∷ record { name = (codes "h1008"); variables = (no_fields) } ∷ record { name = (codes "h1009"); variables = (no_fields) } ∷ record { name = (codes "h1010"); variables = (no_fields) } ∷ record { name = (codes "h1011"); variables = (no_fields) } ∷ record { name = (codes "h1012"); variables = (no_fields) } ∷ record { name = (codes "h1013"); variables = (no_fields) } ∷ record { name = (codes "h1014"); variables = (no_fields) } ∷ record { name = (codes "h1015"); variables = (no_fields) } ∷ record { name = (codes "h1016"); variables = (no_fields) } ∷ record { name = (codes "h1017"); variables = (no_fields) } ∷ record { name = (codes "h1018"); variables = (no_fields) } ∷ record { name = (codes "h1019"); variables = (no_fields) } ∷ record { name = (codes "h1020"); variables = (no_fields) } ∷ record { name = (codes "h1021"); variables = (no_fields) } ∷ record { name = (codes "h1022"); variables = (no_fields) } ∷ record { name = (codes "h1023"); variables = (no_fields) } ∷ []); groups = (record { name = (codes "all"); hosts = ((codes "h0") ∷ (codes "h1") ∷ (codes "h2") ∷ (codes "h3") ∷ (codes "h4") ∷ (codes "h5") ∷ (codes "h6") ∷ (codes "h7") ∷ (codes "h8") ∷ (codes "h9") ∷ (codes "h10") ∷ (codes "h11") ∷ (codes "h12") ∷ (codes "h13") ∷ (codes "h14") ∷ (codes "h15") ∷ (codes "h16") ∷ (codes "h17") ∷ (codes "h18") ∷ (codes "h19") ∷ (codes "h20") ∷ (codes "h21") ∷ (codes "h22") ∷ (codes "h23") ∷ (codes "h24") ∷ (codes "h25") ∷ (codes "h26") ∷ (codes "h27") ∷ (codes "h28") ∷ (codes "h29") ∷ (codes "h30") ∷ (codes "h31") ∷ (codes "h32") ∷ (codes "h33") ∷ (codes "h34") ∷ (codes "h35") ∷ (codes "h36") ∷ (codes "h37") ∷ (codes "h38") ∷ (codes "h39") ∷ (codes "h40") ∷ (codes "h41") ∷ (codes "h42") ∷ (codes "h43") ∷ (codes "h44") ∷ (codes "h45") ∷ (codes "h46") ∷ (codes "h47") ∷ (codes "h48") ∷ (codes "h49") ∷ (codes "h50") ∷ (codes "h51") ∷ (codes "h52") ∷ (codes "h53") ∷ (codes "h54") ∷ (codes "h55") ∷ (codes "h56") ∷ (codes "h57") ∷ (codes "h58") ∷ (codes "h59") ∷ (codes "h60") ∷ (codes "h61") ∷ (codes "h62") ∷ (codes "h63") ∷ (codes "h64") ∷ (codes "h65") ∷ (codes "h66") ∷ (codes "h67") ∷ (codes "h68") ∷ (codes "h69") ∷ (codes "h70") ∷ (codes "h71") ∷ (codes "h72") ∷ (codes "h73") ∷ (codes "h74") ∷ (codes "h75") ∷ (codes "h76") ∷ (codes "h77") ∷ (codes "h78") ∷ (codes "h79") ∷ (codes "h80") ∷ (codes "h81") ∷ (codes "h82") ∷ (codes "h83") ∷ (codes "h84") ∷ (codes "h85") ∷ (codes "h86") ∷ (codes "h87") ∷ (codes "h88") ∷ (codes "h89") ∷ (codes "h90") ∷ (codes "h91") ∷ (codes "h92") ∷ (codes "h93") ∷ (codes "h94") ∷ (codes "h95") ∷ (codes "h96") ∷ (codes "h97") ∷ (codes "h98") ∷ (codes "h99") ∷ (codes "h100") ∷ (codes "h101") ∷ (codes "h102") ∷ (codes "h103") ∷ (codes "h104") ∷ (codes "h105") ∷ (codes "h106") ∷ (codes "h107") ∷ (codes "h108") ∷ (codes "h109") ∷ (codes "h110") ∷ (codes "h111") ∷ (codes "h112") ∷ (codes "h113") ∷ (codes "h114") ∷ (codes "h115") ∷ (codes "h116") ∷ (codes "h117") ∷ (codes "h118") ∷ (codes "h119") ∷ (codes "h120") ∷ (codes "h121") ∷ (codes "h122") ∷ (codes "h123") ∷ (codes "h124") ∷ (codes "h125") ∷ (codes "h126") ∷ (codes "h127") ∷ (codes "h128") ∷ (codes "h129") ∷ (codes "h130") ∷ (codes "h131") ∷ (codes "h132") ∷ (codes "h133") ∷ (codes "h134") ∷ (codes "h135") ∷ (codes "h136") ∷ (codes "h137") ∷ (codes "h138") ∷ (codes "h139") ∷ (codes "h140") ∷ (codes "h141") ∷ (codes "h142") ∷ (codes "h143") ∷ (codes "h144") ∷ (codes "h145") ∷ (codes "h146") ∷ (codes "h147") ∷ (codes "h148") ∷ (codes "h149") ∷ (codes "h150") ∷ (codes "h151") ∷ (codes "h152") ∷ (codes "h153") ∷ (codes "h154") ∷ (codes "h155") ∷ (codes "h156") ∷ (codes "h157") ∷ (codes "h158") ∷ (codes "h159") ∷ (codes "h160") ∷ (codes "h161") ∷ (codes "h162") ∷ (codes "h163") ∷ (codes "h164") ∷ (codes "h165") ∷ (codes "h166") ∷ (codes "h167") ∷ (codes "h168") ∷ (codes "h169") ∷ (codes "h170") ∷ (codes "h171") ∷ (codes "h172") ∷ (codes "h173") ∷ (codes "h174") ∷ (codes "h175") ∷ (codes "h176") ∷ (codes "h177") ∷ (codes "h178") ∷ (codes "h179") ∷ (codes "h180") ∷ (codes "h181") ∷ (codes "h182") ∷ (codes "h183") ∷ (codes "h184") ∷ (codes "h185") ∷ (codes "h186") ∷ (codes "h187") ∷ (codes "h188") ∷ (codes "h189") ∷ (codes "h190") ∷ (codes "h191") ∷ (codes "h192") ∷ (codes "h193") ∷ (codes "h194") ∷ (codes "h195") ∷ (codes "h196") ∷ (codes "h197") ∷ (codes "h198") ∷ (codes "h199") ∷ (codes "h200") ∷ (codes "h201") ∷ (codes "h202") ∷ (codes "h203") ∷ (codes "h204") ∷ (codes "h205") ∷ (codes "h206") ∷ (codes "h207") ∷ (codes "h208") ∷ (codes "h209") ∷ (codes "h210") ∷ (codes "h211") ∷ (codes "h212") ∷ (codes "h213") ∷ (codes "h214") ∷ (codes "h215") ∷ (codes "h216") ∷ (codes "h217") ∷ (codes "h218") ∷ (codes "h219") ∷ (codes "h220") ∷ (codes "h221") ∷ (codes "h222") ∷ (codes "h223") ∷ (codes "h224") ∷ (codes "h225") ∷ (codes "h226") ∷ (codes "h227") ∷ (codes "h228") ∷ (codes "h229") ∷ (codes "h230") ∷ (codes "h231") ∷ (codes "h232") ∷ (codes "h233") ∷ (codes "h234") ∷ (codes "h235") ∷ (codes "h236") ∷ (codes "h237") ∷ (codes "h238") ∷ (codes "h239") ∷ (codes "h240") ∷ (codes "h241") ∷ (codes "h242") ∷ (codes "h243") ∷ (codes "h244") ∷ (codes "h245") ∷ (codes "h246") ∷ (codes "h247") ∷ (codes "h248") ∷ (codes "h249") ∷ (codes "h250") ∷ (codes "h251") ∷ (codes "h252") ∷ (codes "h253") ∷ (codes "h254") ∷ (codes "h255") ∷ (codes "h256") ∷ (codes "h257") ∷ (codes "h258") ∷ (codes "h259") ∷ (codes "h260") ∷ (codes "h261") ∷ (codes "h262") ∷ (codes "h263") ∷ (codes "h264") ∷ (codes "h265") ∷ (codes "h266") ∷ (codes "h267") ∷ (codes "h268") ∷ (codes "h269") ∷ (codes "h270") ∷ (codes "h271") ∷ (codes "h272") ∷ (codes "h273") ∷ (codes "h274") ∷ (codes "h275") ∷ (codes "h276") ∷ (codes "h277") ∷ (codes "h278") ∷ (codes "h279") ∷ (codes "h280") ∷ (codes "h281") ∷ (codes "h282") ∷ (codes "h283") ∷ (codes "h284") ∷ (codes "h285") ∷ (codes "h286") ∷ (codes "h287") ∷ (codes "h288") ∷ (codes "h289") ∷ (codes "h290") ∷ (codes "h291") ∷ (codes "h292") ∷ (codes "h293") ∷ (codes "h294") ∷ (codes "h295") ∷ (codes "h296") ∷ (codes "h297") ∷ (codes "h298") ∷ (codes "h299") ∷ (codes "h300") ∷ (codes "h301") ∷ (codes "h302") ∷ (codes "h303") ∷ (codes "h304") ∷ (codes "h305") ∷ (codes "h306") ∷ (codes "h307") ∷ (codes "h308") ∷ (codes "h309") ∷ (codes "h310") ∷ (codes "h311") ∷ (codes "h312") ∷ (codes "h313") ∷ (codes "h314") ∷ (codes "h315") ∷ (codes "h316") ∷ (codes "h317") ∷ (codes "h318") ∷ (codes "h319") ∷ (codes "h320") ∷ (codes "h321") ∷ (codes "h322") ∷ (codes "h323") ∷ (codes "h324") ∷ (codes "h325") ∷ (codes "h326") ∷ (codes "h327") ∷ (codes "h328") ∷ (codes "h329") ∷ (codes "h330") ∷ (codes "h331") ∷ (codes "h332") ∷ (codes "h333") ∷ (codes "h334") ∷ (codes "h335") ∷ (codes "h336") ∷ (codes "h337") ∷ (codes "h338") ∷ (codes "h339") ∷ (codes "h340") ∷ (codes "h341") ∷ (codes "h342") ∷ (codes "h343") ∷ (codes "h344") ∷ (codes "h345") ∷ (codes "h346") ∷ (codes "h347") ∷ (codes "h348") ∷ (codes "h349") ∷ (codes "h350") ∷ (codes "h351") ∷ (codes "h352") ∷ (codes "h353") ∷ (codes "h354") ∷ (codes "h355") ∷ (codes "h356") ∷ (codes "h357") ∷ (codes "h358") ∷ (codes "h359") ∷ (codes "h360") ∷ (codes "h361") ∷ (codes "h362") ∷ (codes "h363") ∷ (codes "h364") ∷ (codes "h365") ∷ (codes "h366") ∷ (codes "h367") ∷ (codes "h368") ∷ (codes "h369") ∷ (codes "h370") ∷ (codes "h371") ∷ (codes "h372") ∷ (codes "h373") ∷ (codes "h374") ∷ (codes "h375") ∷ (codes "h376") ∷ (codes "h377") ∷ (codes "h378") ∷ (codes "h379") ∷ (codes "h380") ∷ (codes "h381") ∷ (codes "h382") ∷ (codes "h383") ∷ (codes "h384") ∷ (codes "h385") ∷ (codes "h386") ∷ (codes "h387") ∷ (codes "h388") ∷ (codes "h389") ∷ (codes "h390") ∷ (codes "h391") ∷ (codes "h392") ∷ (codes "h393") ∷ (codes "h394") ∷ (codes "h395") ∷ (codes "h396") ∷ (codes "h397") ∷ (codes "h398") ∷ (codes "h399") ∷ (codes "h400") ∷ (codes "h401") ∷ (codes "h402") ∷ (codes "h403") ∷ (codes "h404") ∷ (codes "h405") ∷ (codes "h406") ∷ (codes "h407") ∷ (codes "h408") ∷ (codes "h409") ∷ (codes "h410") ∷ (codes "h411") ∷ (codes "h412") ∷ (codes "h413") ∷ (codes "h414") ∷ (codes "h415") ∷ (codes "h416") ∷ (codes "h417") ∷ (codes "h418") ∷ (codes "h419") ∷ (codes "h420") ∷ (codes "h421") ∷ (codes "h422") ∷ (codes "h423") ∷ (codes "h424") ∷ (codes "h425") ∷ (codes "h426") ∷ (codes "h427") ∷ (codes "h428") ∷ (codes "h429") ∷ (codes "h430") ∷ (codes "h431") ∷ (codes "h432") ∷ (codes "h433") ∷ (codes "h434") ∷ (codes "h435") ∷ (codes "h436") ∷ (codes "h437") ∷ (codes "h438") ∷ (codes "h439") ∷ (codes "h440") ∷ (codes "h441") ∷ (codes "h442") ∷ (codes "h443") ∷ (codes "h444") ∷ (codes "h445") ∷ (codes "h446") ∷ (codes "h447") ∷ (codes "h448") ∷ (codes "h449") ∷ (codes "h450") ∷ (codes "h451") ∷ (codes "h452") ∷ (codes "h453") ∷ (codes "h454") ∷ (codes "h455") ∷ (codes "h456") ∷ (codes "h457") ∷ (codes "h458") ∷ (codes "h459") ∷ (codes "h460") ∷ (codes "h461") ∷ (codes "h462") ∷ (codes "h463") ∷ (codes "h464") ∷ (codes "h465") ∷ (codes "h466") ∷ (codes "h467") ∷ (codes "h468") ∷ (codes "h469") ∷ (codes "h470") ∷ (codes "h471") ∷ (codes "h472") ∷ (codes "h473") ∷ (codes "h474") ∷ (codes "h475") ∷ (codes "h476") ∷ (codes "h477") ∷ (codes "h478") ∷ (codes "h479") ∷ (codes "h480") ∷ (codes "h481") ∷ (codes "h482") ∷ (codes "h483") ∷ (codes "h484") ∷ (codes "h485") ∷ (codes "h486") ∷ (codes "h487") ∷ (codes "h488") ∷ (codes "h489") ∷ (codes "h490") ∷ (codes "h491") ∷ (codes "h492") ∷ (codes "h493") ∷ (codes "h494") ∷ (codes "h495") ∷ (codes "h496") ∷ (codes "h497") ∷ (codes "h498") ∷ (codes "h499") ∷ (codes "h500") ∷ (codes "h501") ∷ (codes "h502") ∷ (codes "h503") ∷ (codes "h504") ∷ (codes "h505") ∷ (codes "h506") ∷ (codes "h507") ∷ (codes "h508") ∷ (codes "h509") ∷ (codes "h510") ∷ (codes "h511") ∷ (codes "h512") ∷ (codes "h513") ∷ (codes "h514") ∷ (codes "h515") ∷ (codes "h516") ∷ (codes "h517") ∷ (codes "h518") ∷ (codes "h519") ∷ (codes "h520") ∷ (codes "h521") ∷ (codes "h522") ∷ (codes "h523") ∷ (codes "h524") ∷ (codes "h525") ∷ (codes "h526") ∷ (codes "h527") ∷ (codes "h528") ∷ (codes "h529") ∷ (codes "h530") ∷ (codes "h531") ∷ (codes "h532") ∷ (codes "h533") ∷ (codes "h534") ∷ (codes "h535") ∷ (codes "h536") ∷ (codes "h537") ∷ (codes "h538") ∷ (codes "h539") ∷ (codes "h540") ∷ (codes "h541") ∷ (codes "h542") ∷ (codes "h543") ∷ (codes "h544") ∷ (codes "h545") ∷ (codes "h546") ∷ (codes "h547") ∷ (codes "h548") ∷ (codes "h549") ∷ (codes "h550") ∷ (codes "h551") ∷ (codes "h552") ∷ (codes "h553") ∷ (codes "h554") ∷ (codes "h555") ∷ (codes "h556") ∷ (codes "h557") ∷ (codes "h558") ∷ (codes "h559") ∷ (codes "h560") ∷ (codes "h561") ∷ (codes "h562") ∷ (codes "h563") ∷ (codes "h564") ∷ (codes "h565") ∷ (codes "h566") ∷ (codes "h567") ∷ (codes "h568") ∷ (codes "h569") ∷ (codes "h570") ∷ (codes "h571") ∷ (codes "h572") ∷ (codes "h573") ∷ (codes "h574") ∷ (codes "h575") ∷ (codes "h576") ∷ (codes "h577") ∷ (codes "h578") ∷ (codes "h579") ∷ (codes "h580") ∷ (codes "h581") ∷ (codes "h582") ∷ (codes "h583") ∷ (codes "h584") ∷ (codes "h585") ∷ (codes "h586") ∷ (codes "h587") ∷ (codes "h588") ∷ (codes "h589") ∷ (codes "h590") ∷ (codes "h591") ∷ (codes "h592") ∷ (codes "h593") ∷ (codes "h594") ∷ (codes "h595") ∷ (codes "h596") ∷ (codes "h597") ∷ (codes "h598") ∷ (codes "h599") ∷ (codes "h600") ∷ (codes "h601") ∷ (codes "h602") ∷ (codes "h603") ∷ (codes "h604") ∷ (codes "h605") ∷ (codes "h606") ∷ (codes "h607") ∷ (codes "h608") ∷ (codes "h609") ∷ (codes "h610") ∷ (codes "h611") ∷ (codes "h612") ∷ (codes "h613") ∷ (codes "h614") ∷ (codes "h615") ∷ (codes "h616") ∷ (codes "h617") ∷ (codes "h618") ∷ (codes "h619") ∷ (codes "h620") ∷ (codes "h621") ∷ (codes "h622") ∷ (codes "h623") ∷ (codes "h624") ∷ (codes "h625") ∷ (codes "h626") ∷ (codes "h627") ∷ (codes "h628") ∷ (codes "h629") ∷ (codes "h630") ∷ (codes "h631") ∷ (codes "h632") ∷ (codes "h633") ∷ (codes "h634") ∷ (codes "h635") ∷ (codes "h636") ∷ (codes "h637") ∷ (codes "h638") ∷ (codes "h639") ∷ (codes "h640") ∷ (codes "h641") ∷ (codes "h642") ∷ (codes "h643") ∷ (codes "h644") ∷ (codes "h645") ∷ (codes "h646") ∷ (codes "h647") ∷ (codes "h648") ∷ (codes "h649") ∷ (codes "h650") ∷ (codes "h651") ∷ (codes "h652") ∷ (codes "h653") ∷ (codes "h654") ∷ (codes "h655") ∷ (codes "h656") ∷ (codes "h657") ∷ (codes "h658") ∷ (codes "h659") ∷ (codes "h660") ∷ (codes "h661") ∷ (codes "h662") ∷ (codes "h663") ∷ (codes "h664") ∷ (codes "h665") ∷ (codes "h666") ∷ (codes "h667") ∷ (codes "h668") ∷ (codes "h669") ∷ (codes "h670") ∷ (codes "h671") ∷ (codes "h672") ∷ (codes "h673") ∷ (codes "h674") ∷ (codes "h675") ∷ (codes "h676") ∷ (codes "h677") ∷ (codes "h678") ∷ (codes "h679") ∷ (codes "h680") ∷ (codes "h681") ∷ (codes "h682") ∷ (codes "h683") ∷ (codes "h684") ∷ (codes "h685") ∷ (codes "h686") ∷ (codes "h687") ∷ (codes "h688") ∷ (codes "h689") ∷ (codes "h690") ∷ (codes "h691") ∷ (codes "h692") ∷ (codes "h693") ∷ (codes "h694") ∷ (codes "h695") ∷ (codes "h696") ∷ (codes "h697") ∷ (codes "h698") ∷ (codes "h699") ∷ (codes "h700") ∷ (codes "h701") ∷ (codes "h702") ∷ (codes "h703") ∷ (codes "h704") ∷ (codes "h705") ∷ (codes "h706") ∷ (codes "h707") ∷ (codes "h708") ∷ (codes "h709") ∷ (codes "h710") ∷ (codes "h711") ∷ (codes "h712") ∷ (codes "h713") ∷ (codes "h714") ∷ (codes "h715") ∷ (codes "h716") ∷ (codes "h717") ∷ (codes "h718") ∷ (codes "h719") ∷ (codes "h720") ∷ (codes "h721") ∷ (codes "h722") ∷ (codes "h723") ∷ (codes "h724") ∷ (codes "h725") ∷ (codes "h726") ∷ (codes "h727") ∷ (codes "h728") ∷ (codes "h729") ∷ (codes "h730") ∷ (codes "h731") ∷ (codes "h732") ∷ (codes "h733") ∷ (codes "h734") ∷ (codes "h735") ∷ (codes "h736") ∷ (codes "h737") ∷ (codes "h738") ∷ (codes "h739") ∷ (codes "h740") ∷ (codes "h741") ∷ (codes "h742") ∷ (codes "h743") ∷ (codes "h744") ∷ (codes "h745") ∷ (codes "h746") ∷ (codes "h747") ∷ (codes "h748") ∷ (codes "h749") ∷ (codes "h750") ∷ (codes "h751") ∷ (codes "h752") ∷ (codes "h753") ∷ (codes "h754") ∷ (codes "h755") ∷ (codes "h756") ∷ (codes "h757") ∷ (codes "h758") ∷ (codes "h759") ∷ (codes "h760") ∷ (codes "h761") ∷ (codes "h762") ∷ (codes "h763") ∷ (codes "h764") ∷ (codes "h765") ∷ (codes "h766") ∷ (codes "h767") ∷ (codes "h768") ∷ (codes "h769") ∷ (codes "h770") ∷ (codes "h771") ∷ (codes "h772") ∷ (codes "h773") ∷ (codes "h774") ∷ (codes "h775") ∷ (codes "h776") ∷ (codes "h777") ∷ (codes "h778") ∷ (codes "h779") ∷ (codes "h780") ∷ (codes "h781") ∷ (codes "h782") ∷ (codes "h783") ∷ (codes "h784") ∷ (codes "h785") ∷ (codes "h786") ∷ (codes "h787") ∷ (codes "h788") ∷ (codes "h789") ∷ (codes "h790") ∷ (codes "h791") ∷ (codes "h792") ∷ (codes "h793") ∷ (codes "h794") ∷ (codes "h795") ∷ (codes "h796") ∷ (codes "h797") ∷ (codes "h798") ∷ (codes "h799") ∷ (codes "h800") ∷ (codes "h801") ∷ (codes "h802") ∷ (codes "h803") ∷ (codes "h804") ∷ (codes "h805") ∷ (codes "h806") ∷ (codes "h807") ∷ (codes "h808") ∷ (codes "h809") ∷ (codes "h810") ∷ (codes "h811") ∷ (codes "h812") ∷ (codes "h813") ∷ (codes "h814") ∷ (codes "h815") ∷ (codes "h816") ∷ (codes "h817") ∷ (codes "h818") ∷ (codes "h819") ∷ (codes "h820") ∷ (codes "h821") ∷ (codes "h822") ∷ (codes "h823") ∷ (codes "h824") ∷ (codes "h825") ∷ (codes "h826") ∷ (codes "h827") ∷ (codes "h828") ∷ (codes "h829") ∷ (codes "h830") ∷ (codes "h831") ∷ (codes "h832") ∷ (codes "h833") ∷ (codes "h834") ∷ (codes "h835") ∷ (codes "h836") ∷ (codes "h837") ∷ (codes "h838") ∷ (codes "h839") ∷ (codes "h840") ∷ (codes "h841") ∷ (codes "h842") ∷ (codes "h843") ∷ (codes "h844") ∷ (codes "h845") ∷ (codes "h846") ∷ (codes "h847") ∷ (codes "h848") ∷ (codes "h849") ∷ (codes "h850") ∷ (codes "h851") ∷ (codes "h852") ∷ (codes "h853") ∷ (codes "h854") ∷ (codes "h855") ∷ (codes "h856") ∷ (codes "h857") ∷ (codes "h858") ∷ (codes "h859") ∷ (codes "h860") ∷ (codes "h861") ∷ (codes "h862") ∷ (codes "h863") ∷ (codes "h864") ∷ (codes "h865") ∷ (codes "h866") ∷ (codes "h867") ∷ (codes "h868") ∷ (codes "h869") ∷ (codes "h870") ∷ (codes "h871") ∷ (codes "h872") ∷ (codes "h873") ∷ (codes "h874") ∷ (codes "h875") ∷ (codes "h876") ∷ (codes "h877") ∷ (codes "h878") ∷ (codes "h879") ∷ (codes "h880") ∷ (codes "h881") ∷ (codes "h882") ∷ (codes "h883") ∷ (codes "h884") ∷ (codes "h885") ∷ (codes "h886") ∷ (codes "h887") ∷ (codes "h888") ∷ (codes "h889") ∷ (codes "h890") ∷ (codes "h891") ∷ (codes "h892") ∷ (codes "h893") ∷ (codes "h894") ∷ (codes "h895") ∷ (codes "h896") ∷ (codes "h897") ∷ (codes "h898") ∷ (codes "h899") ∷ (codes "h900") ∷ (codes "h901") ∷ (codes "h902") ∷ (codes "h903") ∷ (codes "h904") ∷ (codes "h905") ∷ (codes "h906") ∷ (codes "h907") ∷ (codes "h908") ∷ (codes "h909") ∷ (codes "h910") ∷ (codes "h911") ∷ (codes "h912") ∷ (codes "h913") ∷ (codes "h914") ∷ (codes "h915") ∷ (codes "h916") ∷ (codes "h917") ∷ (codes "h918") ∷ (codes "h919") ∷ (codes "h920") ∷ (codes "h921") ∷ (codes "h922") ∷ (codes "h923") ∷ (codes "h924") ∷ (codes "h925") ∷ (codes "h926") ∷ (codes "h927") ∷ (codes "h928") ∷ (codes "h929") ∷ (codes "h930") ∷ (codes "h931") ∷ (codes "h932") ∷ (codes "h933") ∷ (codes "h934") ∷ (codes "h935") ∷ (codes "h936") ∷ (codes "h937") ∷ (codes "h938") ∷ (codes "h939") ∷ (codes "h940") ∷ (codes "h941") ∷ (codes "h942") ∷ (codes "h943") ∷ (codes "h944") ∷ (codes "h945") ∷ (codes "h946") ∷ (codes "h947") ∷ (codes "h948") ∷ (codes "h949") ∷ (codes "h950") ∷ (codes "h951") ∷ (codes "h952") ∷ (codes "h953") ∷ (codes "h954") ∷ (codes "h955") ∷ (codes "h956") ∷ (codes "h957") ∷ (codes "h958") ∷ (codes "h959") ∷ (codes "h960") ∷ (codes "h961") ∷ (codes "h962") ∷ (codes "h963") ∷ (codes "h964") ∷ (codes "h965") ∷ (codes "h966") ∷ (codes "h967") ∷ (codes "h968") ∷ (codes "h969") ∷ (codes "h970") ∷ (codes "h971") ∷ (codes "h972") ∷ (codes "h973") ∷ (codes "h974") ∷ (codes "h975") ∷ (codes "h976") ∷ (codes "h977") ∷ (codes "h978") ∷ (codes "h979") ∷ (codes "h980") ∷ (codes "h981") ∷ (codes "h982") ∷ (codes "h983") ∷ (codes "h984") ∷ (codes "h985") ∷ (codes "h986") ∷ (codes "h987") ∷ (codes "h988") ∷ (codes "h989") ∷ (codes "h990") ∷ (codes "h991") ∷ (codes "h992") ∷ (codes "h993") ∷ (codes "h994") ∷ (codes "h995") ∷ (codes "h996") ∷ (codes "h997") ∷ (codes "h998") ∷ (codes "h999") ∷ (codes "h1000") ∷ (codes "h1001") ∷ (codes "h1002") ∷ (codes "h1003") ∷ (codes "h1004") ∷ (codes "h1005") ∷ (codes "h1006") ∷ (codes "h1007") ∷ (codes "h1008") ∷ (codes "h1009") ∷ (codes "h1010") ∷ (codes "h1011") ∷ (codes "h1012") ∷ (codes "h1013") ∷ (codes "h1014") ∷ (codes "h1015") ∷ (codes "h1016") ∷ (codes "h1017") ∷ (codes "h1018") ∷ (codes "h1019") ∷ (codes "h1020") ∷ (codes "h1021") ∷ (codes "h1022") ∷ (codes "h1023") ∷ []) } ∷ record { name = (codes "ungrouped"); hosts = ((codes "h0") ∷ (codes "h1") ∷ (codes "h2") ∷ (codes "h3") ∷ (codes "h4") ∷ (codes "h5") ∷ (codes "h6") ∷ (codes "h7") ∷ (codes "h8") ∷ (codes "h9") ∷ (codes "h10") ∷ (codes "h11") ∷ (codes "h12") ∷ (codes "h13") ∷ (codes "h14") ∷ (codes "h15") ∷ (codes "h16") ∷ (codes "h17") ∷ (codes "h18") ∷ (codes "h19") ∷ (codes "h20") ∷ (codes "h21") ∷ (codes "h22") ∷ (codes "h23") ∷ (codes "h24") ∷ (codes "h25") ∷ (codes "h26") ∷ (codes "h27") ∷ (codes "h28") ∷ (codes "h29") ∷ (codes "h30") ∷ (codes "h31") ∷ (codes "h32") ∷ (codes "h33") ∷ (codes "h34") ∷ (codes "h35") ∷ (codes "h36") ∷ (codes "h37") ∷ (codes "h38") ∷ (codes "h39") ∷ (codes "h40") ∷ (codes "h41") ∷ (codes "h42") ∷ (codes "h43") ∷ (codes "h44") ∷ (codes "h45") ∷ (codes "h46") ∷ (codes "h47") ∷ (codes "h48") ∷ (codes "h49") ∷ (codes "h50") ∷ (codes "h51") ∷ (codes "h52") ∷ (codes "h53") ∷ (codes "h54") ∷ (codes "h55") ∷ (codes "h56") ∷ (codes "h57") ∷ (codes "h58") ∷ (codes "h59") ∷ (codes "h60") ∷ (codes "h61") ∷ (codes "h62") ∷ (codes "h63") ∷ (codes "h64") ∷ (codes "h65") ∷ (codes "h66") ∷ (codes "h67") ∷ (codes "h68") ∷ (codes "h69") ∷ (codes "h70") ∷ (codes "h71") ∷ (codes "h72") ∷ (codes "h73") ∷ (codes "h74") ∷ (codes "h75") ∷ (codes "h76") ∷ (codes "h77") ∷ (codes "h78") ∷ (codes "h79") ∷ (codes "h80") ∷ (codes "h81") ∷ (codes "h82") ∷ (codes "h83") ∷ (codes "h84") ∷ (codes "h85") ∷ (codes "h86") ∷ (codes "h87") ∷ (codes "h88") ∷ (codes "h89") ∷ (codes "h90") ∷ (codes "h91") ∷ (codes "h92") ∷ (codes "h93") ∷ (codes "h94") ∷ (codes "h95") ∷ (codes "h96") ∷ (codes "h97") ∷ (codes "h98") ∷ (codes "h99") ∷ (codes "h100") ∷ (codes "h101") ∷ (codes "h102") ∷ (codes "h103") ∷ (codes "h104") ∷ (codes "h105") ∷ (codes "h106") ∷ (codes "h107") ∷ (codes "h108") ∷ (codes "h109") ∷ (codes "h110") ∷ (codes "h111") ∷ (codes "h112") ∷ (codes "h113") ∷ (codes "h114") ∷ (codes "h115") ∷ (codes "h116") ∷ (codes "h117") ∷ (codes "h118") ∷ (codes "h119") ∷ (codes "h120") ∷ (codes "h121") ∷ (codes "h122") ∷ (codes "h123") ∷ (codes "h124") ∷ (codes "h125") ∷ (codes "h126") ∷ (codes "h127") ∷ (codes "h128") ∷ (codes "h129") ∷ (codes "h130") ∷ (codes "h131") ∷ (codes "h132") ∷ (codes "h133") ∷ (codes "h134") ∷ (codes "h135") ∷ (codes "h136") ∷ (codes "h137") ∷ (codes "h138") ∷ (codes "h139") ∷ (codes "h140") ∷ (codes "h141") ∷ (codes "h142") ∷ (codes "h143") ∷ (codes "h144") ∷ (codes "h145") ∷ (codes "h146") ∷ (codes "h147") ∷ (codes "h148") ∷ (codes "h149") ∷ (codes "h150") ∷ (codes "h151") ∷ (codes "h152") ∷ (codes "h153") ∷ (codes "h154") ∷ (codes "h155") ∷ (codes "h156") ∷ (codes "h157") ∷ (codes "h158") ∷ (codes "h159") ∷ (codes "h160") ∷ (codes "h161") ∷ (codes "h162") ∷ (codes "h163") ∷ (codes "h164") ∷ (codes "h165") ∷ (codes "h166") ∷ (codes "h167") ∷ (codes "h168") ∷ (codes "h169") ∷ (codes "h170") ∷ (codes "h171") ∷ (codes "h172") ∷ (codes "h173") ∷ (codes "h174") ∷ (codes "h175") ∷ (codes "h176") ∷ (codes "h177") ∷ (codes "h178") ∷ (codes "h179") ∷ (codes "h180") ∷ (codes "h181") ∷ (codes "h182") ∷ (codes "h183") ∷ (codes "h184") ∷ (codes "h185") ∷ (codes "h186") ∷ (codes "h187") ∷ (codes "h188") ∷ (codes "h189") ∷ (codes "h190") ∷ (codes "h191") ∷ (codes "h192") ∷ (codes "h193") ∷ (codes "h194") ∷ (codes "h195") ∷ (codes "h196") ∷ (codes "h197") ∷ (codes "h198") ∷ (codes "h199") ∷ (codes "h200") ∷ (codes "h201") ∷ (codes "h202") ∷ (codes "h203") ∷ (codes "h204") ∷ (codes "h205") ∷ (codes "h206") ∷ (codes "h207") ∷ (codes "h208") ∷ (codes "h209") ∷ (codes "h210") ∷ (codes "h211") ∷ (codes "h212") ∷ (codes "h213") ∷ (codes "h214") ∷ (codes "h215") ∷ (codes "h216") ∷ (codes "h217") ∷ (codes "h218") ∷ (codes "h219") ∷ (codes "h220") ∷ (codes "h221") ∷ (codes "h222") ∷ (codes "h223") ∷ (codes "h224") ∷ (codes "h225") ∷ (codes "h226") ∷ (codes "h227") ∷ (codes "h228") ∷ (codes "h229") ∷ (codes "h230") ∷ (codes "h231") ∷ (codes "h232") ∷ (codes "h233") ∷ (codes "h234") ∷ (codes "h235") ∷ (codes "h236") ∷ (codes "h237") ∷ (codes "h238") ∷ (codes "h239") ∷ (codes "h240") ∷ (codes "h241") ∷ (codes "h242") ∷ (codes "h243") ∷ (codes "h244") ∷ (codes "h245") ∷ (codes "h246") ∷ (codes "h247") ∷ (codes "h248") ∷ (codes "h249") ∷ (codes "h250") ∷ (codes "h251") ∷ (codes "h252") ∷ (codes "h253") ∷ (codes "h254") ∷ (codes "h255") ∷ (codes "h256") ∷ (codes "h257") ∷ (codes "h258") ∷ (codes "h259") ∷ (codes "h260") ∷ (codes "h261") ∷ (codes "h262") ∷ (codes "h263") ∷ (codes "h264") ∷ (codes "h265") ∷ (codes "h266") ∷ (codes "h267") ∷ (codes "h268") ∷ (codes "h269") ∷ (codes "h270") ∷ (codes "h271") ∷ (codes "h272") ∷ (codes "h273") ∷ (codes "h274") ∷ (codes "h275") ∷ (codes "h276") ∷ (codes "h277") ∷ (codes "h278") ∷ (codes "h279") ∷ (codes "h280") ∷ (codes "h281") ∷ (codes "h282") ∷ (codes "h283") ∷ (codes "h284") ∷ (codes "h285") ∷ (codes "h286") ∷ (codes "h287") ∷ (codes "h288") ∷ (codes "h289") ∷ (codes "h290") ∷ (codes "h291") ∷ (codes "h292") ∷ (codes "h293") ∷ (codes "h294") ∷ (codes "h295") ∷ (codes "h296") ∷ (codes "h297") ∷ (codes "h298") ∷ (codes "h299") ∷ (codes "h300") ∷ (codes "h301") ∷ (codes "h302") ∷ (codes "h303") ∷ (codes "h304") ∷ (codes "h305") ∷ (codes "h306") ∷ (codes "h307") ∷ (codes "h308") ∷ (codes "h309") ∷ (codes "h310") ∷ (codes "h311") ∷ (codes "h312") ∷ (codes "h313") ∷ (codes "h314") ∷ (codes "h315") ∷ (codes "h316") ∷ (codes "h317") ∷ (codes "h318") ∷ (codes "h319") ∷ (codes "h320") ∷ (codes "h321") ∷ (codes "h322") ∷ (codes "h323") ∷ (codes "h324") ∷ (codes "h325") ∷ (codes "h326") ∷ (codes "h327") ∷ (codes "h328") ∷ (codes "h329") ∷ (codes "h330") ∷ (codes "h331") ∷ (codes "h332") ∷ (codes "h333") ∷ (codes "h334") ∷ (codes "h335") ∷ (codes "h336") ∷ (codes "h337") ∷ (codes "h338") ∷ (codes "h339") ∷ (codes "h340") ∷ (codes "h341") ∷ (codes "h342") ∷ (codes "h343") ∷ (codes "h344") ∷ (codes "h345") ∷ (codes "h346") ∷ (codes "h347") ∷ (codes "h348") ∷ (codes "h349") ∷ (codes "h350") ∷ (codes "h351") ∷ (codes "h352") ∷ (codes "h353") ∷ (codes "h354") ∷ (codes "h355") ∷ (codes "h356") ∷ (codes "h357") ∷ (codes "h358") ∷ (codes "h359") ∷ (codes "h360") ∷ (codes "h361") ∷ (codes "h362") ∷ (codes "h363") ∷ (codes "h364") ∷ (codes "h365") ∷ (codes "h366") ∷ (codes "h367") ∷ (codes "h368") ∷ (codes "h369") ∷ (codes "h370") ∷ (codes "h371") ∷ (codes "h372") ∷ (codes "h373") ∷ (codes "h374") ∷ (codes "h375") ∷ (codes "h376") ∷ (codes "h377") ∷ (codes "h378") ∷ (codes "h379") ∷ (codes "h380") ∷ (codes "h381") ∷ (codes "h382") ∷ (codes "h383") ∷ (codes "h384") ∷ (codes "h385") ∷ (codes "h386") ∷ (codes "h387") ∷ (codes "h388") ∷ (codes "h389") ∷ (codes "h390") ∷ (codes "h391") ∷ (codes "h392") ∷ (codes "h393") ∷ (codes "h394") ∷ (codes "h395") ∷ (codes "h396") ∷ (codes "h397") ∷ (codes "h398") ∷ (codes "h399") ∷ (codes "h400") ∷ (codes "h401") ∷ (codes "h402") ∷ (codes "h403") ∷ (codes "h404") ∷ (codes "h405") ∷ (codes "h406") ∷ (codes "h407") ∷ (codes "h408") ∷ (codes "h409") ∷ (codes "h410") ∷ (codes "h411") ∷ (codes "h412") ∷ (codes "h413") ∷ (codes "h414") ∷ (codes "h415") ∷ (codes "h416") ∷ (codes "h417") ∷ (codes "h418") ∷ (codes "h419") ∷ (codes "h420") ∷ (codes "h421") ∷ (codes "h422") ∷ (codes "h423") ∷ (codes "h424") ∷ (codes "h425") ∷ (codes "h426") ∷ (codes "h427") ∷ (codes "h428") ∷ (codes "h429") ∷ (codes "h430") ∷ (codes "h431") ∷ (codes "h432") ∷ (codes "h433") ∷ (codes "h434") ∷ (codes "h435") ∷ (codes "h436") ∷ (codes "h437") ∷ (codes "h438") ∷ (codes "h439") ∷ (codes "h440") ∷ (codes "h441") ∷ (codes "h442") ∷ (codes "h443") ∷ (codes "h444") ∷ (codes "h445") ∷ (codes "h446") ∷ (codes "h447") ∷ (codes "h448") ∷ (codes "h449") ∷ (codes "h450") ∷ (codes "h451") ∷ (codes "h452") ∷ (codes "h453") ∷ (codes "h454") ∷ (codes "h455") ∷ (codes "h456") ∷ (codes "h457") ∷ (codes "h458") ∷ (codes "h459") ∷ (codes "h460") ∷ (codes "h461") ∷ (codes "h462") ∷ (codes "h463") ∷ (codes "h464") ∷ (codes "h465") ∷ (codes "h466") ∷ (codes "h467") ∷ (codes "h468") ∷ (codes "h469") ∷ (codes "h470") ∷ (codes "h471") ∷ (codes "h472") ∷ (codes "h473") ∷ (codes "h474") ∷ (codes "h475") ∷ (codes "h476") ∷ (codes "h477") ∷ (codes "h478") ∷ (codes "h479") ∷ (codes "h480") ∷ (codes "h481") ∷ (codes "h482") ∷ (codes "h483") ∷ (codes "h484") ∷ (codes "h485") ∷ (codes "h486") ∷ (codes "h487") ∷ (codes "h488") ∷ (codes "h489") ∷ (codes "h490") ∷ (codes "h491") ∷ (codes "h492") ∷ (codes "h493") ∷ (codes "h494") ∷ (codes "h495") ∷ (codes "h496") ∷ (codes "h497") ∷ (codes "h498") ∷ (codes "h499") ∷ (codes "h500") ∷ (codes "h501") ∷ (codes "h502") ∷ (codes "h503") ∷ (codes "h504") ∷ (codes "h505") ∷ (codes "h506") ∷ (codes "h507") ∷ (codes "h508") ∷ (codes "h509") ∷ (codes "h510") ∷ (codes "h511") ∷ (codes "h512") ∷ (codes "h513") ∷ (codes "h514") ∷ (codes "h515") ∷ (codes "h516") ∷ (codes "h517") ∷ (codes "h518") ∷ (codes "h519") ∷ (codes "h520") ∷ (codes "h521") ∷ (codes "h522") ∷ (codes "h523") ∷ (codes "h524") ∷ (codes "h525") ∷ (codes "h526") ∷ (codes "h527") ∷ (codes "h528") ∷ (codes "h529") ∷ (codes "h530") ∷ (codes "h531") ∷ (codes "h532") ∷ (codes "h533") ∷ (codes "h534") ∷ (codes "h535") ∷ (codes "h536") ∷ (codes "h537") ∷ (codes "h538") ∷ (codes "h539") ∷ (codes "h540") ∷ (codes "h541") ∷ (codes "h542") ∷ (codes "h543") ∷ (codes "h544") ∷ (codes "h545") ∷ (codes "h546") ∷ (codes "h547") ∷ (codes "h548") ∷ (codes "h549") ∷ (codes "h550") ∷ (codes "h551") ∷ (codes "h552") ∷ (codes "h553") ∷ (codes "h554") ∷ (codes "h555") ∷ (codes "h556") ∷ (codes "h557") ∷ (codes "h558") ∷ (codes "h559") ∷ (codes "h560") ∷ (codes "h561") ∷ (codes "h562") ∷ (codes "h563") ∷ (codes "h564") ∷ (codes "h565") ∷ (codes "h566") ∷ (codes "h567") ∷ (codes "h568") ∷ (codes "h569") ∷ (codes "h570") ∷ (codes "h571") ∷ (codes "h572") ∷ (codes "h573") ∷ (codes "h574") ∷ (codes "h575") ∷ (codes "h576") ∷ (codes "h577") ∷ (codes "h578") ∷ (codes "h579") ∷ (codes "h580") ∷ (codes "h581") ∷ (codes "h582") ∷ (codes "h583") ∷ (codes "h584") ∷ (codes "h585") ∷ (codes "h586") ∷ (codes "h587") ∷ (codes "h588") ∷ (codes "h589") ∷ (codes "h590") ∷ (codes "h591") ∷ (codes "h592") ∷ (codes "h593") ∷ (codes "h594") ∷ (codes "h595") ∷ (codes "h596") ∷ (codes "h597") ∷ (codes "h598") ∷ (codes "h599") ∷ (codes "h600") ∷ (codes "h601") ∷ (codes "h602") ∷ (codes "h603") ∷ (codes "h604") ∷ (codes "h605") ∷ (codes "h606") ∷ (codes "h607") ∷ (codes "h608") ∷ (codes "h609") ∷ (codes "h610") ∷ (codes "h611") ∷ (codes "h612") ∷ (codes "h613") ∷ (codes "h614") ∷ (codes "h615") ∷ (codes "h616") ∷ (codes "h617") ∷ (codes "h618") ∷ (codes "h619") ∷ (codes "h620") ∷ (codes "h621") ∷ (codes "h622") ∷ (codes "h623") ∷ (codes "h624") ∷ (codes "h625") ∷ (codes "h626") ∷ (codes "h627") ∷ (codes "h628") ∷ (codes "h629") ∷ (codes "h630") ∷ (codes "h631") ∷ (codes "h632") ∷ (codes "h633") ∷ (codes "h634") ∷ (codes "h635") ∷ (codes "h636") ∷ (codes "h637") ∷ (codes "h638") ∷ (codes "h639") ∷ (codes "h640") ∷ (codes "h641") ∷ (codes "h642") ∷ (codes "h643") ∷ (codes "h644") ∷ (codes "h645") ∷ (codes "h646") ∷ (codes "h647") ∷ (codes "h648") ∷ (codes "h649") ∷ (codes "h650") ∷ (codes "h651") ∷ (codes "h652") ∷ (codes "h653") ∷ (codes "h654") ∷ (codes "h655") ∷ (codes "h656") ∷ (codes "h657") ∷ (codes "h658") ∷ (codes "h659") ∷ (codes "h660") ∷ (codes "h661") ∷ (codes "h662") ∷ (codes "h663") ∷ (codes "h664") ∷ (codes "h665") ∷ (codes "h666") ∷ (codes "h667") ∷ (codes "h668") ∷ (codes "h669") ∷ (codes "h670") ∷ (codes "h671") ∷ (codes "h672") ∷ (codes "h673") ∷ (codes "h674") ∷ (codes "h675") ∷ (codes "h676") ∷ (codes "h677") ∷ (codes "h678") ∷ (codes "h679") ∷ (codes "h680") ∷ (codes "h681") ∷ (codes "h682") ∷ (codes "h683") ∷ (codes "h684") ∷ (codes "h685") ∷ (codes "h686") ∷ (codes "h687") ∷ (codes "h688") ∷ (codes "h689") ∷ (codes "h690") ∷ (codes "h691") ∷ (codes "h692") ∷ (codes "h693") ∷ (codes "h694") ∷ (codes "h695") ∷ (codes "h696") ∷ (codes "h697") ∷ (codes "h698") ∷ (codes "h699") ∷ (codes "h700") ∷ (codes "h701") ∷ (codes "h702") ∷ (codes "h703") ∷ (codes "h704") ∷ (codes "h705") ∷ (codes "h706") ∷ (codes "h707") ∷ (codes "h708") ∷ (codes "h709") ∷ (codes "h710") ∷ (codes "h711") ∷ (codes "h712") ∷ (codes "h713") ∷ (codes "h714") ∷ (codes "h715") ∷ (codes "h716") ∷ (codes "h717") ∷ (codes "h718") ∷ (codes "h719") ∷ (codes "h720") ∷ (codes "h721") ∷ (codes "h722") ∷ (codes "h723") ∷ (codes "h724") ∷ (codes "h725") ∷ (codes "h726") ∷ (codes "h727") ∷ (codes "h728") ∷ (codes "h729") ∷ (codes "h730") ∷ (codes "h731") ∷ (codes "h732") ∷ (codes "h733") ∷ (codes "h734") ∷ (codes "h735") ∷ (codes "h736") ∷ (codes "h737") ∷ (codes "h738") ∷ (codes "h739") ∷ (codes "h740") ∷ (codes "h741") ∷ (codes "h742") ∷ (codes "h743") ∷ (codes "h744") ∷ (codes "h745") ∷ (codes "h746") ∷ (codes "h747") ∷ (codes "h748") ∷ (codes "h749") ∷ (codes "h750") ∷ (codes "h751") ∷ (codes "h752") ∷ (codes "h753") ∷ (codes "h754") ∷ (codes "h755") ∷ (codes "h756") ∷ (codes "h757") ∷ (codes "h758") ∷ (codes "h759") ∷ (codes "h760") ∷ (codes "h761") ∷ (codes "h762") ∷ (codes "h763") ∷ (codes "h764") ∷ (codes "h765") ∷ (codes "h766") ∷ (codes "h767") ∷ (codes "h768") ∷ (codes "h769") ∷ (codes "h770") ∷ (codes "h771") ∷ (codes "h772") ∷ (codes "h773") ∷ (codes "h774") ∷ (codes "h775") ∷ (codes "h776") ∷ (codes "h777") ∷ (codes "h778") ∷ (codes "h779") ∷ (codes "h780") ∷ (codes "h781") ∷ (codes "h782") ∷ (codes "h783") ∷ (codes "h784") ∷ (codes "h785") ∷ (codes "h786") ∷ (codes "h787") ∷ (codes "h788") ∷ (codes "h789") ∷ (codes "h790") ∷ (codes "h791") ∷ (codes "h792") ∷ (codes "h793") ∷ (codes "h794") ∷ (codes "h795") ∷ (codes "h796") ∷ (codes "h797") ∷ (codes "h798") ∷ (codes "h799") ∷ (codes "h800") ∷ (codes "h801") ∷ (codes "h802") ∷ (codes "h803") ∷ (codes "h804") ∷ (codes "h805") ∷ (codes "h806") ∷ (codes "h807") ∷ (codes "h808") ∷ (codes "h809") ∷ (codes "h810") ∷ (codes "h811") ∷ (codes "h812") ∷ (codes "h813") ∷ (codes "h814") ∷ (codes "h815") ∷ (codes "h816") ∷ (codes "h817") ∷ (codes "h818") ∷ (codes "h819") ∷ (codes "h820") ∷ (codes "h821") ∷ (codes "h822") ∷ (codes "h823") ∷ (codes "h824") ∷ (codes "h825") ∷ (codes "h826") ∷ (codes "h827") ∷ (codes "h828") ∷ (codes "h829") ∷ (codes "h830") ∷ (codes "h831") ∷ (codes "h832") ∷ (codes "h833") ∷ (codes "h834") ∷ (codes "h835") ∷ (codes "h836") ∷ (codes "h837") ∷ (codes "h838") ∷ (codes "h839") ∷ (codes "h840") ∷ (codes "h841") ∷ (codes "h842") ∷ (codes "h843") ∷ (codes "h844") ∷ (codes "h845") ∷ (codes "h846") ∷ (codes "h847") ∷ (codes "h848") ∷ (codes "h849") ∷ (codes "h850") ∷ (codes "h851") ∷ (codes "h852") ∷ (codes "h853") ∷ (codes "h854") ∷ (codes "h855") ∷ (codes "h856") ∷ (codes "h857") ∷ (codes "h858") ∷ (codes "h859") ∷ (codes "h860") ∷ (codes "h861") ∷ (codes "h862") ∷ (codes "h863") ∷ (codes "h864") ∷ (codes "h865") ∷ (codes "h866") ∷ (codes "h867") ∷ (codes "h868") ∷ (codes "h869") ∷ (codes "h870") ∷ (codes "h871") ∷ (codes "h872") ∷ (codes "h873") ∷ (codes "h874") ∷ (codes "h875") ∷ (codes "h876") ∷ (codes "h877") ∷ (codes "h878") ∷ (codes "h879") ∷ (codes "h880") ∷ (codes "h881") ∷ (codes "h882") ∷ (codes "h883") ∷ (codes "h884") ∷ (codes "h885") ∷ (codes "h886") ∷ (codes "h887") ∷ (codes "h888") ∷ (codes "h889") ∷ (codes "h890") ∷ (codes "h891") ∷ (codes "h892") ∷ (codes "h893") ∷ (codes "h894") ∷ (codes "h895") ∷ (codes "h896") ∷ (codes "h897") ∷ (codes "h898") ∷ (codes "h899") ∷ (codes "h900") ∷ (codes "h901") ∷ (codes "h902") ∷ (codes "h903") ∷ (codes "h904") ∷ (codes "h905") ∷ (codes "h906") ∷ (codes "h907") ∷ (codes "h908") ∷ (codes "h909") ∷ (codes "h910") ∷ (codes "h911") ∷ (codes "h912") ∷ (codes "h913") ∷ (codes "h914") ∷ (codes "h915") ∷ (codes "h916") ∷ (codes "h917") ∷ (codes "h918") ∷ (codes "h919") ∷ (codes "h920") ∷ (codes "h921") ∷ (codes "h922") ∷ (codes "h923") ∷ (codes "h924") ∷ (codes "h925") ∷ (codes "h926") ∷ (codes "h927") ∷ (codes "h928") ∷ (codes "h929") ∷ (codes "h930") ∷ (codes "h931") ∷ (codes "h932") ∷ (codes "h933") ∷ (codes "h934") ∷ (codes "h935") ∷ (codes "h936") ∷ (codes "h937") ∷ (codes "h938") ∷ (codes "h939") ∷ (codes "h940") ∷ (codes "h941") ∷ (codes "h942") ∷ (codes "h943") ∷ (codes "h944") ∷ (codes "h945") ∷ (codes "h946") ∷ (codes "h947") ∷ (codes "h948") ∷ (codes "h949") ∷ (codes "h950") ∷ (codes "h951") ∷ (codes "h952") ∷ (codes "h953") ∷ (codes "h954") ∷ (codes "h955") ∷ (codes "h956") ∷ (codes "h957") ∷ (codes "h958") ∷ (codes "h959") ∷ (codes "h960") ∷ (codes "h961") ∷ (codes "h962") ∷ (codes "h963") ∷ (codes "h964") ∷ (codes "h965") ∷ (codes "h966") ∷ (codes "h967") ∷ (codes "h968") ∷ (codes "h969") ∷ (codes "h970") ∷ (codes "h971") ∷ (codes "h972") ∷ (codes "h973") ∷ (codes "h974") ∷ (codes "h975") ∷ (codes "h976") ∷ (codes "h977") ∷ (codes "h978") ∷ (codes "h979") ∷ (codes "h980") ∷ (codes "h981") ∷ (codes "h982") ∷ (codes "h983") ∷ (codes "h984") ∷ (codes "h985") ∷ (codes "h986") ∷ (codes "h987") ∷ (codes "h988") ∷ (codes "h989") ∷ (codes "h990") ∷ (codes "h991") ∷ (codes "h992") ∷ (codes "h993") ∷ (codes "h994") ∷ (codes "h995") ∷ (codes "h996") ∷ (codes "h997") ∷ (codes "h998") ∷ (codes "h999") ∷ (codes "h1000") ∷ (codes "h1001") ∷ (codes "h1002") ∷ (codes "h1003") ∷ (codes "h1004") ∷ (codes "h1005") ∷ (codes "h1006") ∷ (codes "h1007") ∷ (codes "h1008") ∷ (codes "h1009") ∷ (codes "h1010") ∷ (codes "h1011") ∷ (codes "h1012") ∷ (codes "h1013") ∷ (codes "h1014") ∷ (codes "h1015") ∷ (codes "h1016") ∷ (codes "h1017") ∷ (codes "h1018") ∷ (codes "h1019") ∷ (codes "h1020") ∷ (codes "h1021") ∷ (codes "h1022") ∷ (codes "h1023") ∷ []) } ∷ []) })
inventory_484 = refl

inventory_485 : inventory_from (rec (field (codes "all") (rec (field (codes "hosts") (list (item (text (codes "h1")) (item (text (codes "h2")) (item (text (codes "h3")) (item (text (codes "h4")) (item (text (codes "h5")) (no_items))))))) (no_fields))) (no_fields))) ≡ Ok (record { hosts = (record { name = (codes "h1"); variables = (no_fields) } ∷ record { name = (codes "h2"); variables = (no_fields) } ∷ record { name = (codes "h3"); variables = (no_fields) } ∷ record { name = (codes "h4"); variables = (no_fields) } ∷ record { name = (codes "h5"); variables = (no_fields) } ∷ []); groups = (record { name = (codes "all"); hosts = ((codes "h1") ∷ (codes "h2") ∷ (codes "h3") ∷ (codes "h4") ∷ (codes "h5") ∷ []) } ∷ record { name = (codes "ungrouped"); hosts = ((codes "h1") ∷ (codes "h2") ∷ (codes "h3") ∷ (codes "h4") ∷ (codes "h5") ∷ []) } ∷ []) })
inventory_485 = refl

inventory_486 : inventory_from (rec (field (codes "all") (rec (field (codes "hosts") (list (item (text (codes "h1")) (no_items))) (field (codes "vars") (rec (field (codes "ansible_hostname") (int (pos 1)) (no_fields))) (no_fields)))) (no_fields))) ≡ Ok (record { hosts = (record { name = (codes "h1"); variables = (no_fields) } ∷ []); groups = (record { name = (codes "all"); hosts = ((codes "h1") ∷ []) } ∷ record { name = (codes "ungrouped"); hosts = ((codes "h1") ∷ []) } ∷ []) })
inventory_486 = refl

inventory_487 : inventory_from (rec (field (codes "all") (rec (field (codes "hosts") (list (item (text (codes "h1")) (no_items))) (field (codes "vars") (rec (field (codes "inv") (int (pos 3)) (no_fields))) (no_fields)))) (no_fields))) ≡ Ok (record { hosts = (record { name = (codes "h1"); variables = (field (codes "inv") (int (pos 3)) (no_fields)) } ∷ []); groups = (record { name = (codes "all"); hosts = ((codes "h1") ∷ []) } ∷ record { name = (codes "ungrouped"); hosts = ((codes "h1") ∷ []) } ∷ []) })
inventory_487 = refl

inventory_488 : inventory_from (rec (field (codes "all") (rec (field (codes "hosts") (list (item (text (codes "h1")) (no_items))) (field (codes "vars") (rec (field (codes "n") (int (negsuc 0)) (no_fields))) (no_fields)))) (no_fields))) ≡ Ok (record { hosts = (record { name = (codes "h1"); variables = (field (codes "n") (int (negsuc 0)) (no_fields)) } ∷ []); groups = (record { name = (codes "all"); hosts = ((codes "h1") ∷ []) } ∷ record { name = (codes "ungrouped"); hosts = ((codes "h1") ∷ []) } ∷ []) })
inventory_488 = refl

inventory_489 : inventory_from (rec (field (codes "all") (rec (field (codes "hosts") (list (item (text (codes "h1")) (no_items))) (field (codes "vars") (rec (field (codes "n") (int (negsuc 9223372036854775807)) (no_fields))) (no_fields)))) (no_fields))) ≡ Ok (record { hosts = (record { name = (codes "h1"); variables = (field (codes "n") (int (negsuc 9223372036854775807)) (no_fields)) } ∷ []); groups = (record { name = (codes "all"); hosts = ((codes "h1") ∷ []) } ∷ record { name = (codes "ungrouped"); hosts = ((codes "h1") ∷ []) } ∷ []) })
inventory_489 = refl

inventory_490 : inventory_from (rec (field (codes "all") (rec (field (codes "hosts") (list (item (text (codes "h1")) (no_items))) (field (codes "vars") (rec (field (codes "n") opaque (no_fields))) (no_fields)))) (no_fields))) ≡ Ok (record { hosts = (record { name = (codes "h1"); variables = (field (codes "n") opaque (no_fields)) } ∷ []); groups = (record { name = (codes "all"); hosts = ((codes "h1") ∷ []) } ∷ record { name = (codes "ungrouped"); hosts = ((codes "h1") ∷ []) } ∷ []) })
inventory_490 = refl

inventory_491 : inventory_from (rec (field (codes "all") (rec (field (codes "hosts") (list (item (text (codes "h1")) (no_items))) (field (codes "vars") (rec (field (codes "x") (rec (field (codes "k") (text (123 ∷ 123 ∷ 32 ∷ 97 ∷ 32 ∷ 125 ∷ 125 ∷ [])) (no_fields))) (no_fields))) (no_fields)))) (no_fields))) ≡ Ok (record { hosts = (record { name = (codes "h1"); variables = (field (codes "x") (rec (field (codes "k") opaque (no_fields))) (no_fields)) } ∷ []); groups = (record { name = (codes "all"); hosts = ((codes "h1") ∷ []) } ∷ record { name = (codes "ungrouped"); hosts = ((codes "h1") ∷ []) } ∷ []) })
inventory_491 = refl

inventory_492 : inventory_from (rec (field (codes "all") (rec (field (codes "hosts") (list (item (text (codes "h1")) (no_items))) (field (codes "vars") (rec (field (codes "x") (text (123 ∷ 35 ∷ [])) (no_fields))) (no_fields)))) (no_fields))) ≡ Ok (record { hosts = (record { name = (codes "h1"); variables = (field (codes "x") opaque (no_fields)) } ∷ []); groups = (record { name = (codes "all"); hosts = ((codes "h1") ∷ []) } ∷ record { name = (codes "ungrouped"); hosts = ((codes "h1") ∷ []) } ∷ []) })
inventory_492 = refl

inventory_493 : inventory_from (rec (field (codes "all") (rec (field (codes "hosts") (list (item (text (codes "h1")) (no_items))) (field (codes "vars") (rec (field (codes "x") (text (123 ∷ 37 ∷ [])) (no_fields))) (no_fields)))) (no_fields))) ≡ Ok (record { hosts = (record { name = (codes "h1"); variables = (field (codes "x") opaque (no_fields)) } ∷ []); groups = (record { name = (codes "all"); hosts = ((codes "h1") ∷ []) } ∷ record { name = (codes "ungrouped"); hosts = ((codes "h1") ∷ []) } ∷ []) })
inventory_493 = refl

inventory_494 : inventory_from (rec (field (codes "all") (rec (field (codes "hosts") (list (item (text (codes "h1")) (no_items))) (field (codes "vars") (rec (field (codes "x") (text (125 ∷ 125 ∷ [])) (no_fields))) (no_fields)))) (no_fields))) ≡ Ok (record { hosts = (record { name = (codes "h1"); variables = (field (codes "x") (text (125 ∷ 125 ∷ [])) (no_fields)) } ∷ []); groups = (record { name = (codes "all"); hosts = ((codes "h1") ∷ []) } ∷ record { name = (codes "ungrouped"); hosts = ((codes "h1") ∷ []) } ∷ []) })
inventory_494 = refl

inventory_495 : inventory_from (rec (field (codes "all") (rec (field (codes "hosts") (list (item (text (codes "h1")) (no_items))) (field (codes "vars") (rec (field (codes "x") opaque (no_fields))) (no_fields)))) (no_fields))) ≡ Ok (record { hosts = (record { name = (codes "h1"); variables = (field (codes "x") opaque (no_fields)) } ∷ []); groups = (record { name = (codes "all"); hosts = ((codes "h1") ∷ []) } ∷ record { name = (codes "ungrouped"); hosts = ((codes "h1") ∷ []) } ∷ []) })
inventory_495 = refl

inventory_496 : inventory_from (rec (field (codes "all") (rec (field (codes "hosts") (list (item (text (codes "h1")) (no_items))) (no_fields))) (no_fields))) ≡ Ok (record { hosts = (record { name = (codes "h1"); variables = (no_fields) } ∷ []); groups = (record { name = (codes "all"); hosts = ((codes "h1") ∷ []) } ∷ record { name = (codes "ungrouped"); hosts = ((codes "h1") ∷ []) } ∷ []) })
inventory_496 = refl

inventory_497 : inventory_from (rec (field (codes "all") (rec (field (codes "vars") (rec (field ([]) (int (pos 2)) (field (codes "a-b") (int (pos 1)) (no_fields)))) (no_fields))) (no_fields))) ≡ Ok (record { hosts = ([]); groups = (record { name = (codes "all"); hosts = ([]) } ∷ record { name = (codes "ungrouped"); hosts = ([]) } ∷ []) })
inventory_497 = refl

inventory_498 : inventory_from (rec (field (codes "all") (rec (field (codes "vars") (rec (field (codes "and") (int (pos 3)) (field (codes "ansible_hostname") (int (pos 4)) (field (codes "groups") (int (pos 1)) (field (codes "item") (int (pos 2)) (no_fields)))))) (no_fields))) (no_fields))) ≡ Ok (record { hosts = ([]); groups = (record { name = (codes "all"); hosts = ([]) } ∷ record { name = (codes "ungrouped"); hosts = ([]) } ∷ []) })
inventory_498 = refl

inventory_499 : inventory_from (rec (field (codes "all") (rec (field (codes "vars") (rec (field (codes "p") (text (codes "all")) (field (codes "q") (text (codes "all")) (no_fields)))) (no_fields))) (field (codes "w2") (rec (field (codes "hosts") (list (item (text (codes "h2")) (item (text (codes "h1")) (no_items)))) (field (codes "vars") (rec (field (codes "p") (text (codes "w2")) (no_fields))) (no_fields)))) (field (codes "web") (rec (field (codes "children") (list (item (text (codes "w2")) (no_items))) (field (codes "hosts") (list (item (text (codes "h1")) (no_items))) (field (codes "vars") (rec (field (codes "p") (text (codes "web")) (no_fields))) (no_fields))))) (no_fields))))) ≡ Ok (record { hosts = (record { name = (codes "h2"); variables = (field (codes "p") (text (codes "w2")) (field (codes "q") (text (codes "all")) (no_fields))) } ∷ record { name = (codes "h1"); variables = (field (codes "p") (text (codes "w2")) (field (codes "q") (text (codes "all")) (no_fields))) } ∷ []); groups = (record { name = (codes "all"); hosts = ((codes "h2") ∷ (codes "h1") ∷ []) } ∷ record { name = (codes "ungrouped"); hosts = ([]) } ∷ record { name = (codes "w2"); hosts = ((codes "h2") ∷ (codes "h1") ∷ []) } ∷ record { name = (codes "web"); hosts = ((codes "h1") ∷ (codes "h2") ∷ []) } ∷ []) })
inventory_499 = refl

inventory_500 : inventory_from (rec (field (codes "c1") (list (item (text (codes "h1")) (item (text (codes "h5")) (no_items)))) (field (codes "c2") (list (item (text (codes "h2")) (item (text (codes "h1")) (no_items)))) (field (codes "p") (rec (field (codes "children") (list (item (text (codes "c2")) (item (text (codes "c1")) (no_items)))) (field (codes "hosts") (list (item (text (codes "h5")) (no_items))) (no_fields)))) (no_fields))))) ≡ Ok (record { hosts = (record { name = (codes "h1"); variables = (no_fields) } ∷ record { name = (codes "h5"); variables = (no_fields) } ∷ record { name = (codes "h2"); variables = (no_fields) } ∷ []); groups = (record { name = (codes "all"); hosts = ((codes "h1") ∷ (codes "h5") ∷ (codes "h2") ∷ []) } ∷ record { name = (codes "c1"); hosts = ((codes "h1") ∷ (codes "h5") ∷ []) } ∷ record { name = (codes "c2"); hosts = ((codes "h2") ∷ (codes "h1") ∷ []) } ∷ record { name = (codes "p"); hosts = ((codes "h5") ∷ (codes "h2") ∷ (codes "h1") ∷ []) } ∷ record { name = (codes "ungrouped"); hosts = ([]) } ∷ []) })
inventory_500 = refl

inventory_501 : inventory_from (rec (field (codes "db") (list (item (text (codes "h3")) (item (text (codes "h1")) (no_items)))) (field (codes "h2") (list (item (text (codes "h3")) (no_items))) (field (codes "web") (list (item (text (codes "h1")) (item (text (codes "h2")) (no_items)))) (no_fields))))) ≡ Ok (record { hosts = (record { name = (codes "h3"); variables = (no_fields) } ∷ record { name = (codes "h1"); variables = (no_fields) } ∷ record { name = (codes "h2"); variables = (no_fields) } ∷ []); groups = (record { name = (codes "all"); hosts = ((codes "h3") ∷ (codes "h1") ∷ (codes "h2") ∷ []) } ∷ record { name = (codes "db"); hosts = ((codes "h3") ∷ (codes "h1") ∷ []) } ∷ record { name = (codes "h2"); hosts = ((codes "h3") ∷ []) } ∷ record { name = (codes "ungrouped"); hosts = ([]) } ∷ record { name = (codes "web"); hosts = ((codes "h1") ∷ (codes "h2") ∷ []) } ∷ []) })
inventory_501 = refl

inventory_502 : inventory_from (rec (field (codes "g") (list (item (text (codes "h1")) (no_items))) (no_fields))) ≡ Ok (record { hosts = (record { name = (codes "h1"); variables = (no_fields) } ∷ []); groups = (record { name = (codes "all"); hosts = ((codes "h1") ∷ []) } ∷ record { name = (codes "g"); hosts = ((codes "h1") ∷ []) } ∷ record { name = (codes "ungrouped"); hosts = ([]) } ∷ []) })
inventory_502 = refl

inventory_503 : inventory_from (rec (field (codes "g") (rec (field (codes "children") (list (item (text (codes "c0")) (item (text (codes "c1")) (item (text (codes "c2")) (item (text (codes "c3")) (item (text (codes "c4")) (item (text (codes "c5")) (item (text (codes "c6")) (item (text (codes "c7")) (item (text (codes "c8")) (item (text (codes "c9")) (item (text (codes "c10")) (item (text (codes "c11")) (item (text (codes "c12")) (item (text (codes "c13")) (item (text (codes "c14")) (item (text (codes "c15")) (item (text (codes "c16")) (item (text (codes "c17")) (item (text (codes "c18")) (item (text (codes "c19")) (item (text (codes "c20")) (item (text (codes "c21")) (item (text (codes "c22")) (item (text (codes "c23")) (item (text (codes "c24")) (item (text (codes "c25")) (item (text (codes "c26")) (item (text (codes "c27")) (item (text (codes "c28")) (item (text (codes "c29")) (item (text (codes "c30")) (item (text (codes "c31")) (item (text (codes "c32")) (item (text (codes "c33")) (item (text (codes "c34")) (item (text (codes "c35")) (item (text (codes "c36")) (item (text (codes "c37")) (item (text (codes "c38")) (item (text (codes "c39")) (item (text (codes "c40")) (item (text (codes "c41")) (item (text (codes "c42")) (item (text (codes "c43")) (item (text (codes "c44")) (item (text (codes "c45")) (item (text (codes "c46")) (item (text (codes "c47")) (item (text (codes "c48")) (item (text (codes "c49")) (item (text (codes "c50")) (item (text (codes "c51")) (item (text (codes "c52")) (item (text (codes "c53")) (item (text (codes "c54")) (item (text (codes "c55")) (item (text (codes "c56")) (item (text (codes "c57")) (item (text (codes "c58")) (item (text (codes "c59")) (item (text (codes "c60")) (item (text (codes "c61")) (item (text (codes "c62")) (item (text (codes "c63")) (item (text (codes "c64")) (item (text (codes "c65")) (item (text (codes "c66")) (item (text (codes "c67")) (item (text (codes "c68")) (item (text (codes "c69")) (item (text (codes "c70")) (item (text (codes "c71")) (item (text (codes "c72")) (item (text (codes "c73")) (item (text (codes "c74")) (item (text (codes "c75")) (item (text (codes "c76")) (item (text (codes "c77")) (item (text (codes "c78")) (item (text (codes "c79")) (item (text (codes "c80")) (item (text (codes "c81")) (item (text (codes "c82")) (item (text (codes "c83")) (item (text (codes "c84")) (item (text (codes "c85")) (item (text (codes "c86")) (item (text (codes "c87")) (item (text (codes "c88")) (item (text (codes "c89")) (item (text (codes "c90")) (item (text (codes "c91")) (item (text (codes "c92")) (item (text (codes "c93")) (item (text (codes "c94")) (item (text (codes "c95")) (item (text (codes "c96")) (item (text (codes "c97")) (item (text (codes "c98")) (item (text (codes "c99")) (item (text (codes "c100")) (item (text (codes "c101")) (item (text (codes "c102")) (item (text (codes "c103")) (item (text (codes "c104")) (item (text (codes "c105")) (item (text (codes "c106")) (item (text (codes "c107")) (item (text (codes "c108")) (item (text (codes "c109")) (item (text (codes "c110")) (item (text (codes "c111")) (item (text (codes "c112")) (item (text (codes "c113")) (item (text (codes "c114")) (item (text (codes "c115")) (item (text (codes "c116")) (item (text (codes "c117")) (item (text (codes "c118")) (item (text (codes "c119")) (item (text (codes "c120")) (item (text (codes "c121")) (item (text (codes "c122")) (item (text (codes "c123")) (item (text (codes "c124")) (item (text (codes "c125")) (item (text (codes "c126")) (item (text (codes "c127")) (item (text (codes "c128")) (item (text (codes "c129")) (item (text (codes "c130")) (item (text (codes "c131")) (item (text (codes "c132")) (item (text (codes "c133")) (item (text (codes "c134")) (item (text (codes "c135")) (item (text (codes "c136")) (item (text (codes "c137")) (item (text (codes "c138")) (item (text (codes "c139")) (item (text (codes "c140")) (item (text (codes "c141")) (item (text (codes "c142")) (item (text (codes "c143")) (item (text (codes "c144")) (item (text (codes "c145")) (item (text (codes "c146")) (item (text (codes "c147")) (item (text (codes "c148")) (item (text (codes "c149")) (item (text (codes "c150")) (item (text (codes "c151")) (item (text (codes "c152")) (item (text (codes "c153")) (item (text (codes "c154")) (item (text (codes "c155")) (item (text (codes "c156")) (item (text (codes "c157")) (item (text (codes "c158")) (item (text (codes "c159")) (item (text (codes "c160")) (item (text (codes "c161")) (item (text (codes "c162")) (item (text (codes "c163")) (item (text (codes "c164")) (item (text (codes "c165")) (item (text (codes "c166")) (item (text (codes "c167")) (item (text (codes "c168")) (item (text (codes "c169")) (item (text (codes "c170")) (item (text (codes "c171")) (item (text (codes "c172")) (item (text (codes "c173")) (item (text (codes "c174")) (item (text (codes "c175")) (item (text (codes "c176")) (item (text (codes "c177")) (item (text (codes "c178")) (item (text (codes "c179")) (item (text (codes "c180")) (item (text (codes "c181")) (item (text (codes "c182")) (item (text (codes "c183")) (item (text (codes "c184")) (item (text (codes "c185")) (item (text (codes "c186")) (item (text (codes "c187")) (item (text (codes "c188")) (item (text (codes "c189")) (item (text (codes "c190")) (item (text (codes "c191")) (item (text (codes "c192")) (item (text (codes "c193")) (item (text (codes "c194")) (item (text (codes "c195")) (item (text (codes "c196")) (item (text (codes "c197")) (item (text (codes "c198")) (item (text (codes "c199")) (item (text (codes "c200")) (item (text (codes "c201")) (item (text (codes "c202")) (item (text (codes "c203")) (item (text (codes "c204")) (item (text (codes "c205")) (item (text (codes "c206")) (item (text (codes "c207")) (item (text (codes "c208")) (item (text (codes "c209")) (item (text (codes "c210")) (item (text (codes "c211")) (item (text (codes "c212")) (item (text (codes "c213")) (item (text (codes "c214")) (item (text (codes "c215")) (item (text (codes "c216")) (item (text (codes "c217")) (item (text (codes "c218")) (item (text (codes "c219")) (item (text (codes "c220")) (item (text (codes "c221")) (item (text (codes "c222")) (item (text (codes "c223")) (item (text (codes "c224")) (item (text (codes "c225")) (item (text (codes "c226")) (item (text (codes "c227")) (item (text (codes "c228")) (item (text (codes "c229")) (item (text (codes "c230")) (item (text (codes "c231")) (item (text (codes "c232")) (item (text (codes "c233")) (item (text (codes "c234")) (item (text (codes "c235")) (item (text (codes "c236")) (item (text (codes "c237")) (item (text (codes "c238")) (item (text (codes "c239")) (item (text (codes "c240")) (item (text (codes "c241")) (item (text (codes "c242")) (item (text (codes "c243")) (item (text (codes "c244")) (item (text (codes "c245")) (item (text (codes "c246")) (item (text (codes "c247")) (item (text (codes "c248")) (item (text (codes "c249")) (item (text (codes "c250")) (item (text (codes "c251")) (item (text (codes "c252")) (item (text (codes "c253")) (item (text (codes "c254")) (item (text (codes "c255")) (item (text (codes "c256")) (item (text (codes "c257")) (item (text (codes "c258")) (item (text (codes "c259")) (item (text (codes "c260")) (item (text (codes "c261")) (item (text (codes "c262")) (item (text (codes "c263")) (item (text (codes "c264")) (item (text (codes "c265")) (item (text (codes "c266")) (item (text (codes "c267")) (item (text (codes "c268")) (item (text (codes "c269")) (item (text (codes "c270")) (item (text (codes "c271")) (item (text (codes "c272")) (item (text (codes "c273")) (item (text (codes "c274")) (item (text (codes "c275")) (item (text (codes "c276")) (item (text (codes "c277")) (item (text (codes "c278")) (item (text (codes "c279")) (item (text (codes "c280")) (item (text (codes "c281")) (item (text (codes "c282")) (item (text (codes "c283")) (item (text (codes "c284")) (item (text (codes "c285")) (item (text (codes "c286")) (item (text (codes "c287")) (item (text (codes "c288")) (item (text (codes "c289")) (item (text (codes "c290")) (item (text (codes "c291")) (item (text (codes "c292")) (item (text (codes "c293")) (item (text (codes "c294")) (item (text (codes "c295")) (item (text (codes "c296")) (item (text (codes "c297")) (item (text (codes "c298")) (item (text (codes "c299")) (item (text (codes "c300")) (item (text (codes "c301")) (item (text (codes "c302")) (item (text (codes "c303")) (item (text (codes "c304")) (item (text (codes "c305")) (item (text (codes "c306")) (item (text (codes "c307")) (item (text (codes "c308")) (item (text (codes "c309")) (item (text (codes "c310")) (item (text (codes "c311")) (item (text (codes "c312")) (item (text (codes "c313")) (item (text (codes "c314")) (item (text (codes "c315")) (item (text (codes "c316")) (item (text (codes "c317")) (item (text (codes "c318")) (item (text (codes "c319")) (item (text (codes "c320")) (item (text (codes "c321")) (item (text (codes "c322")) (item (text (codes "c323")) (item (text (codes "c324")) (item (text (codes "c325")) (item (text (codes "c326")) (item (text (codes "c327")) (item (text (codes "c328")) (item (text (codes "c329")) (item (text (codes "c330")) (item (text (codes "c331")) (item (text (codes "c332")) (item (text (codes "c333")) (item (text (codes "c334")) (item (text (codes "c335")) (item (text (codes "c336")) (item (text (codes "c337")) (item (text (codes "c338")) (item (text (codes "c339")) (item (text (codes "c340")) (item (text (codes "c341")) (item (text (codes "c342")) (item (text (codes "c343")) (item (text (codes "c344")) (item (text (codes "c345")) (item (text (codes "c346")) (item (text (codes "c347")) (item (text (codes "c348")) (item (text (codes "c349")) (item (text (codes "c350")) (item (text (codes "c351")) (item (text (codes "c352")) (item (text (codes "c353")) (item (text (codes "c354")) (item (text (codes "c355")) (item (text (codes "c356")) (item (text (codes "c357")) (item (text (codes "c358")) (item (text (codes "c359")) (item (text (codes "c360")) (item (text (codes "c361")) (item (text (codes "c362")) (item (text (codes "c363")) (item (text (codes "c364")) (item (text (codes "c365")) (item (text (codes "c366")) (item (text (codes "c367")) (item (text (codes "c368")) (item (text (codes "c369")) (item (text (codes "c370")) (item (text (codes "c371")) (item (text (codes "c372")) (item (text (codes "c373")) (item (text (codes "c374")) (item (text (codes "c375")) (item (text (codes "c376")) (item (text (codes "c377")) (item (text (codes "c378")) (item (text (codes "c379")) (item (text (codes "c380")) (item (text (codes "c381")) (item (text (codes "c382")) (item (text (codes "c383")) (item (text (codes "c384")) (item (text (codes "c385")) (item (text (codes "c386")) (item (text (codes "c387")) (item (text (codes "c388")) (item (text (codes "c389")) (item (text (codes "c390")) (item (text (codes "c391")) (item (text (codes "c392")) (item (text (codes "c393")) (item (text (codes "c394")) (item (text (codes "c395")) (item (text (codes "c396")) (item (text (codes "c397")) (item (text (codes "c398")) (item (text (codes "c399")) (item (text (codes "c400")) (item (text (codes "c401")) (item (text (codes "c402")) (item (text (codes "c403")) (item (text (codes "c404")) (item (text (codes "c405")) (item (text (codes "c406")) (item (text (codes "c407")) (item (text (codes "c408")) (item (text (codes "c409")) (item (text (codes "c410")) (item (text (codes "c411")) (item (text (codes "c412")) (item (text (codes "c413")) (item (text (codes "c414")) (item (text (codes "c415")) (item (text (codes "c416")) (item (text (codes "c417")) (item (text (codes "c418")) (item (text (codes "c419")) (item (text (codes "c420")) (item (text (codes "c421")) (item (text (codes "c422")) (item (text (codes "c423")) (item (text (codes "c424")) (item (text (codes "c425")) (item (text (codes "c426")) (item (text (codes "c427")) (item (text (codes "c428")) (item (text (codes "c429")) (item (text (codes "c430")) (item (text (codes "c431")) (item (text (codes "c432")) (item (text (codes "c433")) (item (text (codes "c434")) (item (text (codes "c435")) (item (text (codes "c436")) (item (text (codes "c437")) (item (text (codes "c438")) (item (text (codes "c439")) (item (text (codes "c440")) (item (text (codes "c441")) (item (text (codes "c442")) (item (text (codes "c443")) (item (text (codes "c444")) (item (text (codes "c445")) (item (text (codes "c446")) (item (text (codes "c447")) (item (text (codes "c448")) (item (text (codes "c449")) (item (text (codes "c450")) (item (text (codes "c451")) (item (text (codes "c452")) (item (text (codes "c453")) (item (text (codes "c454")) (item (text (codes "c455")) (item (text (codes "c456")) (item (text (codes "c457")) (item (text (codes "c458")) (item (text (codes "c459")) (item (text (codes "c460")) (item (text (codes "c461")) (item (text (codes "c462")) (item (text (codes "c463")) (item (text (codes "c464")) (item (text (codes "c465")) (item (text (codes "c466")) (item (text (codes "c467")) (item (text (codes "c468")) (item (text (codes "c469")) (item (text (codes "c470")) (item (text (codes "c471")) (item (text (codes "c472")) (item (text (codes "c473")) (item (text (codes "c474")) (item (text (codes "c475")) (item (text (codes "c476")) (item (text (codes "c477")) (item (text (codes "c478")) (item (text (codes "c479")) (item (text (codes "c480")) (item (text (codes "c481")) (item (text (codes "c482")) (item (text (codes "c483")) (item (text (codes "c484")) (item (text (codes "c485")) (item (text (codes "c486")) (item (text (codes "c487")) (item (text (codes "c488")) (item (text (codes "c489")) (item (text (codes "c490")) (item (text (codes "c491")) (item (text (codes "c492")) (item (text (codes "c493")) (item (text (codes "c494")) (item (text (codes "c495")) (item (text (codes "c496")) (item (text (codes "c497")) (item (text (codes "c498")) (item (text (codes "c499")) (item (text (codes "c500")) (item (text (codes "c501")) (item (text (codes "c502")) (item (text (codes "c503")) (item (text (codes "c504")) (item (text (codes "c505")) (item (text (codes "c506")) (item (text (codes "c507")) (item (text (codes "c508")) (item (text (codes "c509")) (item (text (codes "c510")) (item (text (codes "c511")) (item (text (codes "c512")) (item (text (codes "c513")) (item (text (codes "c514")) (item (text (codes "c515")) (item (text (codes "c516")) (item (text (codes "c517")) (item (text (codes "c518")) (item (text (codes "c519")) (item (text (codes "c520")) (item (text (codes "c521")) (item (text (codes "c522")) (item (text (codes "c523")) (item (text (codes "c524")) (item (text (codes "c525")) (item (text (codes "c526")) (item (text (codes "c527")) (item (text (codes "c528")) (item (text (codes "c529")) (item (text (codes "c530")) (item (text (codes "c531")) (item (text (codes "c532")) (item (text (codes "c533")) (item (text (codes "c534")) (item (text (codes "c535")) (item (text (codes "c536")) (item (text (codes "c537")) (item (text (codes "c538")) (item (text (codes "c539")) (item (text (codes "c540")) (item (text (codes "c541")) (item (text (codes "c542")) (item (text (codes "c543")) (item (text (codes "c544")) (item (text (codes "c545")) (item (text (codes "c546")) (item (text (codes "c547")) (item (text (codes "c548")) (item (text (codes "c549")) (item (text (codes "c550")) (item (text (codes "c551")) (item (text (codes "c552")) (item (text (codes "c553")) (item (text (codes "c554")) (item (text (codes "c555")) (item (text (codes "c556")) (item (text (codes "c557")) (item (text (codes "c558")) (item (text (codes "c559")) (item (text (codes "c560")) (item (text (codes "c561")) (item (text (codes "c562")) (item (text (codes "c563")) (item (text (codes "c564")) (item (text (codes "c565")) (item (text (codes "c566")) (item (text (codes "c567")) (item (text (codes "c568")) (item (text (codes "c569")) (item (text (codes "c570")) (item (text (codes "c571")) (item (text (codes "c572")) (item (text (codes "c573")) (item (text (codes "c574")) (item (text (codes "c575")) (item (text (codes "c576")) (item (text (codes "c577")) (item (text (codes "c578")) (item (text (codes "c579")) (item (text (codes "c580")) (item (text (codes "c581")) (item (text (codes "c582")) (item (text (codes "c583")) (item (text (codes "c584")) (item (text (codes "c585")) (item (text (codes "c586")) (item (text (codes "c587")) (item (text (codes "c588")) (item (text (codes "c589")) (item (text (codes "c590")) (item (text (codes "c591")) (item (text (codes "c592")) (item (text (codes "c593")) (item (text (codes "c594")) (item (text (codes "c595")) (item (text (codes "c596")) (item (text (codes "c597")) (item (text (codes "c598")) (item (text (codes "c599")) (item (text (codes "c600")) (item (text (codes "c601")) (item (text (codes "c602")) (item (text (codes "c603")) (item (text (codes "c604")) (item (text (codes "c605")) (item (text (codes "c606")) (item (text (codes "c607")) (item (text (codes "c608")) (item (text (codes "c609")) (item (text (codes "c610")) (item (text (codes "c611")) (item (text (codes "c612")) (item (text (codes "c613")) (item (text (codes "c614")) (item (text (codes "c615")) (item (text (codes "c616")) (item (text (codes "c617")) (item (text (codes "c618")) (item (text (codes "c619")) (item (text (codes "c620")) (item (text (codes "c621")) (item (text (codes "c622")) (item (text (codes "c623")) (item (text (codes "c624")) (item (text (codes "c625")) (item (text (codes "c626")) (item (text (codes "c627")) (item (text (codes "c628")) (item (text (codes "c629")) (item (text (codes "c630")) (item (text (codes "c631")) (item (text (codes "c632")) (item (text (codes "c633")) (item (text (codes "c634")) (item (text (codes "c635")) (item (text (codes "c636")) (item (text (codes "c637")) (item (text (codes "c638")) (item (text (codes "c639")) (item (text (codes "c640")) (item (text (codes "c641")) (item (text (codes "c642")) (item (text (codes "c643")) (item (text (codes "c644")) (item (text (codes "c645")) (item (text (codes "c646")) (item (text (codes "c647")) (item (text (codes "c648")) (item (text (codes "c649")) (item (text (codes "c650")) (item (text (codes "c651")) (item (text (codes "c652")) (item (text (codes "c653")) (item (text (codes "c654")) (item (text (codes "c655")) (item (text (codes "c656")) (item (text (codes "c657")) (item (text (codes "c658")) (item (text (codes "c659")) (item (text (codes "c660")) (item (text (codes "c661")) (item (text (codes "c662")) (item (text (codes "c663")) (item (text (codes "c664")) (item (text (codes "c665")) (item (text (codes "c666")) (item (text (codes "c667")) (item (text (codes "c668")) (item (text (codes "c669")) (item (text (codes "c670")) (item (text (codes "c671")) (item (text (codes "c672")) (item (text (codes "c673")) (item (text (codes "c674")) (item (text (codes "c675")) (item (text (codes "c676")) (item (text (codes "c677")) (item (text (codes "c678")) (item (text (codes "c679")) (item (text (codes "c680")) (item (text (codes "c681")) (item (text (codes "c682")) (item (text (codes "c683")) (item (text (codes "c684")) (item (text (codes "c685")) (item (text (codes "c686")) (item (text (codes "c687")) (item (text (codes "c688")) (item (text (codes "c689")) (item (text (codes "c690")) (item (text (codes "c691")) (item (text (codes "c692")) (item (text (codes "c693")) (item (text (codes "c694")) (item (text (codes "c695")) (item (text (codes "c696")) (item (text (codes "c697")) (item (text (codes "c698")) (item (text (codes "c699")) (item (text (codes "c700")) (item (text (codes "c701")) (item (text (codes "c702")) (item (text (codes "c703")) (item (text (codes "c704")) (item (text (codes "c705")) (item (text (codes "c706")) (item (text (codes "c707")) (item (text (codes "c708")) (item (text (codes "c709")) (item (text (codes "c710")) (item (text (codes "c711")) (item (text (codes "c712")) (item (text (codes "c713")) (item (text (codes "c714")) (item (text (codes "c715")) (item (text (codes "c716")) (item (text (codes "c717")) (item (text (codes "c718")) (item (text (codes "c719")) (item (text (codes "c720")) (item (text (codes "c721")) (item (text (codes "c722")) (item (text (codes "c723")) (item (text (codes "c724")) (item (text (codes "c725")) (item (text (codes "c726")) (item (text (codes "c727")) (item (text (codes "c728")) (item (text (codes "c729")) (item (text (codes "c730")) (item (text (codes "c731")) (item (text (codes "c732")) (item (text (codes "c733")) (item (text (codes "c734")) (item (text (codes "c735")) (item (text (codes "c736")) (item (text (codes "c737")) (item (text (codes "c738")) (item (text (codes "c739")) (item (text (codes "c740")) (item (text (codes "c741")) (item (text (codes "c742")) (item (text (codes "c743")) (item (text (codes "c744")) (item (text (codes "c745")) (item (text (codes "c746")) (item (text (codes "c747")) (item (text (codes "c748")) (item (text (codes "c749")) (item (text (codes "c750")) (item (text (codes "c751")) (item (text (codes "c752")) (item (text (codes "c753")) (item (text (codes "c754")) (item (text (codes "c755")) (item (text (codes "c756")) (item (text (codes "c757")) (item (text (codes "c758")) (item (text (codes "c759")) (item (text (codes "c760")) (item (text (codes "c761")) (item (text (codes "c762")) (item (text (codes "c763")) (item (text (codes "c764")) (item (text (codes "c765")) (item (text (codes "c766")) (item (text (codes "c767")) (item (text (codes "c768")) (item (text (codes "c769")) (item (text (codes "c770")) (item (text (codes "c771")) (item (text (codes "c772")) (item (text (codes "c773")) (item (text (codes "c774")) (item (text (codes "c775")) (item (text (codes "c776")) (item (text (codes "c777")) (item (text (codes "c778")) (item (text (codes "c779")) (item (text (codes "c780")) (item (text (codes "c781")) (item (text (codes "c782")) (item (text (codes "c783")) (item (text (codes "c784")) (item (text (codes "c785")) (item (text (codes "c786")) (item (text (codes "c787")) (item (text (codes "c788")) (item (text (codes "c789")) (item (text (codes "c790")) (item (text (codes "c791")) (item (text (codes "c792")) (item (text (codes "c793")) (item (text (codes "c794")) (item (text (codes "c795")) (item (text (codes "c796")) (item (text (codes "c797")) (item (text (codes "c798")) (item (text (codes "c799")) (item (text (codes "c800")) (item (text (codes "c801")) (item (text (codes "c802")) (item (text (codes "c803")) (item (text (codes "c804")) (item (text (codes "c805")) (item (text (codes "c806")) (item (text (codes "c807")) (item (text (codes "c808")) (item (text (codes "c809")) (item (text (codes "c810")) (item (text (codes "c811")) (item (text (codes "c812")) (item (text (codes "c813")) (item (text (codes "c814")) (item (text (codes "c815")) (item (text (codes "c816")) (item (text (codes "c817")) (item (text (codes "c818")) (item (text (codes "c819")) (item (text (codes "c820")) (item (text (codes "c821")) (item (text (codes "c822")) (item (text (codes "c823")) (item (text (codes "c824")) (item (text (codes "c825")) (item (text (codes "c826")) (item (text (codes "c827")) (item (text (codes "c828")) (item (text (codes "c829")) (item (text (codes "c830")) (item (text (codes "c831")) (item (text (codes "c832")) (item (text (codes "c833")) (item (text (codes "c834")) (item (text (codes "c835")) (item (text (codes "c836")) (item (text (codes "c837")) (item (text (codes "c838")) (item (text (codes "c839")) (item (text (codes "c840")) (item (text (codes "c841")) (item (text (codes "c842")) (item (text (codes "c843")) (item (text (codes "c844")) (item (text (codes "c845")) (item (text (codes "c846")) (item (text (codes "c847")) (item (text (codes "c848")) (item (text (codes "c849")) (item (text (codes "c850")) (item (text (codes "c851")) (item (text (codes "c852")) (item (text (codes "c853")) (item (text (codes "c854")) (item (text (codes "c855")) (item (text (codes "c856")) (item (text (codes "c857")) (item (text (codes "c858")) (item (text (codes "c859")) (item (text (codes "c860")) (item (text (codes "c861")) (item (text (codes "c862")) (item (text (codes "c863")) (item (text (codes "c864")) (item (text (codes "c865")) (item (text (codes "c866")) (item (text (codes "c867")) (item (text (codes "c868")) (item (text (codes "c869")) (item (text (codes "c870")) (item (text (codes "c871")) (item (text (codes "c872")) (item (text (codes "c873")) (item (text (codes "c874")) (item (text (codes "c875")) (item (text (codes "c876")) (item (text (codes "c877")) (item (text (codes "c878")) (item (text (codes "c879")) (item (text (codes "c880")) (item (text (codes "c881")) (item (text (codes "c882")) (item (text (codes "c883")) (item (text (codes "c884")) (item (text (codes "c885")) (item (text (codes "c886")) (item (text (codes "c887")) (item (text (codes "c888")) (item (text (codes "c889")) (item (text (codes "c890")) (item (text (codes "c891")) (item (text (codes "c892")) (item (text (codes "c893")) (item (text (codes "c894")) (item (text (codes "c895")) (item (text (codes "c896")) (item (text (codes "c897")) (item (text (codes "c898")) (item (text (codes "c899")) (item (text (codes "c900")) (item (text (codes "c901")) (item (text (codes "c902")) (item (text (codes "c903")) (item (text (codes "c904")) (item (text (codes "c905")) (item (text (codes "c906")) (item (text (codes "c907")) (item (text (codes "c908")) (item (text (codes "c909")) (item (text (codes "c910")) (item (text (codes "c911")) (item (text (codes "c912")) (item (text (codes "c913")) (item (text (codes "c914")) (item (text (codes "c915")) (item (text (codes "c916")) (item (text (codes "c917")) (item (text (codes "c918")) (item (text (codes "c919")) (item (text (codes "c920")) (item (text (codes "c921")) (item (text (codes "c922")) (item (text (codes "c923")) (item (text (codes "c924")) (item (text (codes "c925")) (item (text (codes "c926")) (item (text (codes "c927")) (item (text (codes "c928")) (item (text (codes "c929")) (item (text (codes "c930")) (item (text (codes "c931")) (item (text (codes "c932")) (item (text (codes "c933")) (item (text (codes "c934")) (item (text (codes "c935")) (item (text (codes "c936")) (item (text (codes "c937")) (item (text (codes "c938")) (item (text (codes "c939")) (item (text (codes "c940")) (item (text (codes "c941")) (item (text (codes "c942")) (item (text (codes "c943")) (item (text (codes "c944")) (item (text (codes "c945")) (item (text (codes "c946")) (item (text (codes "c947")) (item (text (codes "c948")) (item (text (codes "c949")) (item (text (codes "c950")) (item (text (codes "c951")) (item (text (codes "c952")) (item (text (codes "c953")) (item (text (codes "c954")) (item (text (codes "c955")) (item (text (codes "c956")) (item (text (codes "c957")) (item (text (codes "c958")) (item (text (codes "c959")) (item (text (codes "c960")) (item (text (codes "c961")) (item (text (codes "c962")) (item (text (codes "c963")) (item (text (codes "c964")) (item (text (codes "c965")) (item (text (codes "c966")) (item (text (codes "c967")) (item (text (codes "c968")) (item (text (codes "c969")) (item (text (codes "c970")) (item (text (codes "c971")) (item (text (codes "c972")) (item (text (codes "c973")) (item (text (codes "c974")) (item (text (codes "c975")) (item (text (codes "c976")) (item (text (codes "c977")) (item (text (codes "c978")) (item (text (codes "c979")) (item (text (codes "c980")) (item (text (codes "c981")) (item (text (codes "c982")) (item (text (codes "c983")) (item (text (codes "c984")) (item (text (codes "c985")) (item (text (codes "c986")) (item (text (codes "c987")) (item (text (codes "c988")) (item (text (codes "c989")) (item (text (codes "c990")) (item (text (codes "c991")) (item (text (codes "c992")) (item (text (codes "c993")) (item (text (codes "c994")) (item (text (codes "c995")) (item (text (codes "c996")) (item (text (codes "c997")) (item (text (codes "c998")) (item (text (codes "c999")) (item (text (codes "c1000")) (item (text (codes "c1001")) (item (text (codes "c1002")) (item (text (codes "c1003")) (item (text (codes "c1004")) (item (text (codes "c1005")) (item (text (codes "c1006")) (item (text (codes "c1007")) (item (text (codes "c1008")) (item (text (codes "c1009")) (item (text (codes "c1010")) (item (text (codes "c1011")) (item (text (codes "c1012")) (item (text (codes "c1013")) (item (text (codes "c1014")) (item (text (codes "c1015")) (item (text (codes "c1016")) (item (text (codes "c1017")) (item (text (codes "c1018")) (item (text (codes "c1019")) (item (text (codes "c1020")) (item (text (codes "c1021")) (no_items)))))))))))))))))))))))))))))))))))))))))))))))))))))))))))))))))))))))))))))))))))))))))))))))))))))))))))))))))))))))))))))))))))))))))))))))))))))))))))))))))))))))))))))))))))))))))))))))))))))))))))))))))))))))))))))))))))))))))))))))))))))))))))))))))))))))))))))))))))))))))))))))))))))))))))))))))))))))))))))))))))))))))))))))))))))))))))))))))))))))))))))))))))))))))))))))))))))))))))))))))))))))))))))))))))))))))))))))))))))))))))))))))))))))))))))))))))))))))))))))))))))))))))))))))))))))))))))))))))))))))))))))))))))))))))))))))))))))))))))))))))))))))))))))))))))))))))))))))))))))))))))))))))))))))))))))))))))))))))))))))))))))))))))))))))))))))))))))))))))))))))))))))))))))))))))))))))))))))))))))))))))))))))))))))))))))))))))))))))))))))))))))))))))))))))))))))))))))))))))))))))))))))))))))))))))))))))))))))))))))))))))))))))))))))))))))))))))))))))))))))))))))))))))))))))))))))))))))))))))))))))))))))))))))))))))))))))))))))))))))))))))))))))))))))))))))))))))))))))))))))))))))))))))))))))))))) (no_fields))) (no_fields))) ≡ Err over_limit
inventory_503 = refl

inventory_504 : inventory_from (rec (field (codes "gggggggggggggggggggggggggggggggggggggggggggggggggggggggggggggggggggggggggggggggggggggggggggggggggggg") (list (no_items)) (no_fields))) ≡ Ok (record { hosts = ([]); groups = (record { name = (codes "all"); hosts = ([]) } ∷ record { name = (codes "gggggggggggggggggggggggggggggggggggggggggggggggggggggggggggggggggggggggggggggggggggggggggggggggggggg"); hosts = ([]) } ∷ record { name = (codes "ungrouped"); hosts = ([]) } ∷ []) })
inventory_504 = refl

inventory_505 : inventory_from (rec (field (codes "ggggggggggggggggggggggggggggggggggggggggggggggggggggggggggggggggggggggggggggggggggggggggggggggggggggg") (list (no_items)) (no_fields))) ≡ Err wrong_form
inventory_505 = refl

inventory_506 : inventory_from (rec (field (codes "ungrouped") (rec (field (codes "children") (list (item (text (codes "a")) (no_items))) (no_fields))) (no_fields))) ≡ Err wrong_form
inventory_506 = refl

inventory_507 : inventory_from (rec (field (codes "ungrouped") (rec (field (codes "children") (list (item (text (codes "ungrouped")) (no_items))) (no_fields))) (no_fields))) ≡ Err wrong_form
inventory_507 = refl

inventory_508 : inventory_from (rec (no_fields)) ≡ Ok (record { hosts = ([]); groups = (record { name = (codes "all"); hosts = ([]) } ∷ record { name = (codes "ungrouped"); hosts = ([]) } ∷ []) })
inventory_508 = refl
